use Rattle.std.proofs.Common.{[], ◌∷◌, ◌++◌, take, is_ok, sym, ap, ◌∙◌}
use Rattle.std.proofs.ResultArms.{chosen}
use Rattle.std.proofs.lemmas.List.{take_more}
use Rattle.qasm_expand.specs.Flats.{each_from}
use Rattle.qasm_expand.specs.inside.Costs.{costs_of, definition_cost}
use Rattle.qasm_expand.proofs.Calls.{each_from-push}
use Rattle.qasm_expand.proofs.cost.costs.Goals as goal

pub loop-definition-init : goal.loop-definition-init
unfolding each_from
loop-definition-init c = c.in_ok-known.ensures.items

pub loop-definition-preserved : goal.loop-definition-preserved
loop-definition-preserved c =
    let i = c.loop-definition.definition-index in
    let gates = c.args.gates.now in
    let d = c.definition-item.result in
    let pushed = chosen _ _ _ _ c.push.ensures.items (ap is_ok c.in_ok-push.was) in
    let next = c.definition_cost-next.ensures ∙ ap (λ xs. definition_cost xs d) (c.deref.ensures.value ∙ c.loop-definition.invariant) in
    pushed
    ∙ ap (λ xs. xs ++ c.definition_cost-next.result ∷ []) c.loop-definition.invariant
    ∙ ap (λ x. costs_of (take i gates) ++ x ∷ []) next
    ∙ sym (each_from-push definition_cost [] (take i gates) d)
    ∙ ap costs_of (ap (λ x. take i gates ++ x ∷ []) c.definition-item.is ∙ sym (take_more gates i d c.loop-definition-test.true))
