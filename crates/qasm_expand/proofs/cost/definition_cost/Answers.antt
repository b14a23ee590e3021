use Rattle.std.proofs.Common.{◌≡◌, ◌+◌, take, ap, ◌∙◌, sum_by}
use Rattle.std.proofs.lemmas.List.{take_all}
use Rattle.qasm_expand.specs.inside.Costs.{definition_cost, capped_cost, op_operations, op_products}
use Rattle.qasm_expand.proofs.cost.definition_cost.Goals as goal

pub returns : goal.returns
unfolding definition_cost
returns c =
    let known = c.args.known.now in
    let items = c.as_slice-op-items.result.now in
    let all : take c.loop-op.op-index items ≡ c.args.definition.now.body = take_all c.loop-op.op-index items c.loop-op-test.false ∙ c.as_slice-op-items.ensures in
    c.loop-op.invariant ∙ ap (λ xs. capped_cost (1 + sum_by (op_operations known) xs) (sum_by (op_products known) xs)) all
