use Rattle.std.proofs.Common.{◌+◌, ◌<◌, max, min, List, length, get_or, refl, sym, subst, arith, take_all, Contains}
use Rattle.std.proofs.lemmas.List.{get_or_default}
use Rattle.commute_order.specs.declared.sharing.Writer.{Writer}
use Rattle.commute_order.proofs.SharingLaws.{MarkedWith, marked_more}
use Rattle.commute_order.proofs.sharing.mark_pairs.Goals as goal

pub loop-w-preserved : goal.loop-w-preserved
loop-w-preserved c =
    let k = c.loop-w.w-index in
    let ws = c.args.writers.now in
    let r = c.args.r in
    let none : Writer = record { bit = 0; product = 0 } in
    let w = get_or ws k none in
    let m = c.loop-w.invariant in
    let inside : k < length ws = c.loop-w-test.true in
    let here : r < length c.loop-w.rows = omega (arith, m.size, c.requires.within) in
    let small : w.product < length c.args.rows.now = c.requires.writers k none inside in
    let there : w.product < length c.loop-w.rows = omega (arith, m.size) in
    subst (MarkedWith r ws (k + 1) c.args.rows.now) (sym c.mark_pair.ensures) (marked_more r ws k (max r w.product) (min r w.product) c.args.rows.now c.loop-w.rows w m inside (get_or_default ws k w none inside) here there refl refl)

pub returns-clause-marked : goal.returns-clause-marked
returns-clause-marked c = λ w h.
    c.loop-w.invariant.done w (subst (λ (ws : List Writer). Contains ws w) (sym (take_all c.loop-w.w-index c.args.writers.now c.loop-w-test.false)) h)
