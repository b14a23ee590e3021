use Rattle.commute_order.proofs.SharingLaws.{MarkedWith}
use Rattle.commute_order.proofs.sharing.mark_pairs.Given as goal

abbrev pub invariant-loop-w : goal.invariant-loop-w
invariant-loop-w l = MarkedWith l.r l.writers l.w-index l.fn.rows l.rows
