use Rattle.std.proofs.Common.{ℕ, ◌+◌, take, sym, ap, ◌∙◌, Some}
use Rattle.std.proofs.lemmas.List.{drop_all}
use Rattle.qasm_expand.specs.declared.cost.Cost.{Cost}
use Rattle.qasm_expand.specs.Limits.{passing_from}
use Rattle.qasm_expand.specs.inside.Costs.{capped_cost, is_over}
use Rattle.qasm_expand.proofs.Limits.{passing_stops, passing_goes, counted_more, over}
use Rattle.qasm_expand.proofs.cost.passing.Goals as goal

pub returns-then-is_over : goal.returns-then-is_over
returns-then-is_over c =
    let known = c.args.known.now in
    let ss = c.args.statements.now in
    let i : ℕ = c.loop-statement.statement-index in
    let s = c.statement-item.result in
    let before : Cost = c.loop-statement.total in
    let next = c.plus-total.ensures ∙ ap (λ (x : Cost). capped_cost (before.operations + x.operations) (before.products + x.products)) c.statement_cost.ensures in
    let counted = counted_more known ss i s before c.plus-total.result c.loop-statement-test.true c.statement-item.is c.loop-statement.invariant next in
    let past = sym (over known (take (i + 1) ss) c.plus-total.result counted) ∙ sym c.is_over.ensures ∙ c.if-is_over.true in
    ap Some c.line.ensures ∙ sym (c.loop-statement.invariant.so_far ∙ passing_stops (is_over known) ss i s c.loop-statement-test.true c.statement-item.is past)

pub loop-statement-preserved : goal.loop-statement-preserved
loop-statement-preserved c =
    let known = c.args.known.now in
    let ss = c.args.statements.now in
    let i : ℕ = c.loop-statement.statement-index in
    let s = c.statement-item.result in
    let before : Cost = c.loop-statement.total in
    let next = c.plus-total.ensures ∙ ap (λ (x : Cost). capped_cost (before.operations + x.operations) (before.products + x.products)) c.statement_cost.ensures in
    let counted = counted_more known ss i s before c.plus-total.result c.loop-statement-test.true c.statement-item.is c.loop-statement.invariant next in
    let within = sym (over known (take (i + 1) ss) c.plus-total.result counted) ∙ sym c.is_over.ensures ∙ c.if-is_over.false in
    record {
      counted = counted;
      so_far = c.loop-statement.invariant.so_far ∙ passing_goes (is_over known) ss i s c.loop-statement-test.true c.statement-item.is within;
    }

pub returns : goal.returns
unfolding passing_from
returns c =
    let ss = c.args.statements.now in
    let i : ℕ = c.loop-statement.statement-index in
    sym (c.loop-statement.invariant.so_far ∙ ap (passing_from (is_over c.args.known.now) (take i ss)) (drop_all i ss c.loop-statement-test.false))
