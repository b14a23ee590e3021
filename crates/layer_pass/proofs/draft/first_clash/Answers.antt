use Rattle.std.proofs.Common.{◌≡◌, false, not, get_or, ap, sym, ◌∙◌, arith}
use Rattle.commute_order.specs.Commuting.{commuting_at}
use Rattle.layer_pass.proofs.Finds.{find-none, find-first}
use Rattle.layer_pass.proofs.draft.first_clash.Goals as goal

pub returns-then-not-commute-clause-first : goal.returns-then-not-commute-clause-first
returns-then-not-commute-clause-first c = λ ps us order.
    let row = c.args.row.now in
    let p = c.args.p in
    let clash : commuting_at ps us (get_or row c.loop-j.j-index 0) p ≡ false = sym (c.commute.ensures ps us order) ∙ c.if-not-commute.true in
    sym (find-first (λ j. not (commuting_at ps us j p)) row c.loop-j.j-index (omega arith)
    (λ i l. ap not (c.loop-j.invariant ps us order i l)) (ap not clash))

pub returns-clause-first : goal.returns-clause-first
returns-clause-first c = λ ps us order.
    let row = c.args.row.now in
    let p = c.args.p in
    sym (find-none (λ j. not (commuting_at ps us j p)) row (λ i l. ap not (c.loop-j.invariant ps us order i (omega arith))))
