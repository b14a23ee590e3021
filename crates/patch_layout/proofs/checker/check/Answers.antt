use Rattle.patch_layout.specs.Case.{case_of}
use Rattle.patch_layout.proofs.Checking.{fits_unless, checked_lists}
use Rattle.patch_layout.proofs.checker.check.Goals as goal

pub returns-clause-fits : goal.returns-clause-fits
returns-clause-fits c =
    let plan = c.args.plan.now in
    let g = c.args.layout.now in
    fits_unless (case_of g c.args.rotation plan) c.first_fault.result c.first_fault.ensures.sound
    (checked_lists g c.args.rotation plan.axis plan.port c.cells.result.now plan.cells c.as_slice.result.now plan.parents c.as_slice-2.result.now plan.touches c.first_fault.result c.cells.ensures c.as_slice.ensures c.as_slice-2.ensures
    c.first_fault.ensures.first)
