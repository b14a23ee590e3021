use Rattle.std.proofs.Common.{◌||◌, ap, ◌∙◌, arith}
use Rattle.commute_order.specs.Sharing.{mark}
use Rattle.commute_order.proofs.SharingLaws.{more_marks, all_readers}
use Rattle.commute_order.proofs.sharing.mark_readers.Goals as goal

pub loop-r-preserved : goal.loop-r-preserved
loop-r-preserved c =
    let us = c.args.uses.now in
    let m = c.loop-r.invariant in
    record {
      size = c.mark_reader.ensures.size ∙ m.size;
      long = c.mark_reader.ensures.long;
      marks = λ p j d le h. more_marks us d c.loop-r.r p j (mark c.args.rows.now p j) (mark c.loop-r.rows p j) (mark c.mark_reader.new.rows p j) (m.marks p j d le h) (c.mark_reader.ensures.marks p j d le h);
    }

pub returns-clause-marks : goal.returns-clause-marks
returns-clause-marks c = λ p j d le h.
    c.loop-r.invariant.marks p j d le h ∙ ap (λ b. mark c.args.rows.now p j || b) (all_readers c.args.uses.now d c.loop-r.r p j (omega (arith, c.loop-r-test.false)) (omega (arith, c.loop-r-test.false)))
