use Rattle.std.proofs.Common.{◌≡◌, List, Bool, length, arith, sym, subst}
use Rattle.patch_layout.proofs.Trees.{written_back}
use Rattle.least_region.specs.inside.Pick.{MarkedAt}
use Rattle.least_region.proofs.shrink.marks_at.Goals as goal

pub returns-clause-marks : goal.returns-clause-marks
returns-clause-marks c =
    let size : length c.mark_set.new.marks ≡ c.in_ok-marks.marks.len = omega (arith, c.mark_set.auto.marks, c.deref_mut.ensures.len) in
    let e = written_back c.mark_set.new.marks c.in_ok-marks.marks.items c.in_ok-marks.marks.len size in
    subst (λ (m : List Bool). MarkedAt c.args.layout.now c.args.rows.now c.args.pick.cell m) (sym e) c.mark_set.ensures
