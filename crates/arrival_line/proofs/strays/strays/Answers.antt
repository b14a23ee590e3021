use Rattle.std.proofs.Common.{sym, ap, ◌∙◌}
use Rattle.arrival_line.proofs.Finds.{sifts_next, at_served, at_stray}
use Rattle.arrival_line.proofs.strays.strays.Goals as goal
use Rattle.arrival_line.proofs.strays.strays.Goals.{then-not-sift+in_ok-push, else-not-sift}

pub loop-i-preserved : goal.loop-i-preserved
loop-i-preserved c = record {
  sifts = sifts_next _ _ _ _ _ c.loop-i-test.true c.loop-i.invariant.sifts _ c.sift.ensures.wanted;
  found = elim c.if-not-sift.branch [
    | then-not-sift+in_ok-push w ↦ at_stray _ _ _ _ _ c.loop-i-test.true c.loop-i.invariant.sifts _ _ c.loop-i.invariant.found (ap (λ v. v.items) w.found-is ∙ w.in_ok-push.ensures.items) (sym w.if-not-sift.ensures.answer)
    | else-not-sift w ↦ at_served _ _ _ _ _ c.loop-i-test.true c.loop-i.invariant.sifts _ _ c.loop-i.invariant.found (ap (λ v. v.items) w.found-is) (sym w.if-not-sift.ensures.answer)
  ];
}
