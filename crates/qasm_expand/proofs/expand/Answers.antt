use Rattle.std.proofs.Common.{◌≤◌, [], length, refl, sym, ap, ◌∙◌, subst}
use Rattle.std.proofs.lemmas.List.{take_all}
use Rattle.qasm_expand.specs.Flats.{flats_of, all_flats, calls_of}
use Rattle.qasm_expand.specs.Limits.{passing, passing_from}
use Rattle.qasm_expand.specs.inside.Costs.{is_over, costs_of}
use Rattle.qasm_expand.proofs.Limits.{none_unless}
use Rattle.qasm_expand.proofs.Counts.{passing-costs}
use Rattle.qasm_expand.proofs.Bounds.{flats_bounded}
use Rattle.qasm_expand.proofs.expand.Goals as goal

pub returns-in-Some-clause-too_many : goal.returns-in-Some-clause-too_many
returns-in-Some-clause-too_many c =
    let known = c.deref.ensures.value ∙ c.in_ok-known.ensures ∙ ap costs_of c.as_slice.ensures in
    let found = c.passing.ensures ∙ ap (λ k. passing_from (is_over k) [] c.as_slice-2.result.now) known ∙ ap (passing_from (is_over (costs_of c.args.tree.now.gates)) []) c.as_slice-2.ensures ∙ passing-costs c.args.tree.now in
    (sym found ∙ c.in-Some.is, refl)

pub returns-clause-expanded : goal.returns-clause-expanded
unfolding flats_of
returns-clause-expanded c =
    let calls = calls_of c.args.tree.now.gates in
    c.loop-statement.invariant ∙ ap (all_flats calls) (take_all c.loop-statement.statement-index c.as_slice-statement-items.result.now c.loop-statement-test.false ∙ c.as_slice-statement-items.ensures)

pub returns-clause-within : goal.returns-clause-within
returns-clause-within c =
    let known = c.deref.ensures.value ∙ c.in_ok-known.ensures ∙ ap costs_of c.as_slice.ensures in
    let found = c.passing.ensures ∙ ap (λ k. passing_from (is_over k) [] c.as_slice-2.result.now) known ∙ ap (passing_from (is_over (costs_of c.args.tree.now.gates)) []) c.as_slice-2.ensures ∙ passing-costs c.args.tree.now in
    none_unless (passing c.args.tree.now) (λ n is. c.in_default.not-Some n (found ∙ is))

pub returns-clause-bounded : goal.returns-clause-bounded
returns-clause-bounded c =
    let made = returns-clause-expanded c in
    let few = flats_bounded c.args.tree.now (returns-clause-within c) in
    subst (λ xs. length xs ≤ 262144) (sym made) few
