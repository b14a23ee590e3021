use Rattle.std.proofs.Common.{Some, None, ◌∙◌}
use Rattle.patch_layout.specs.Region.{wanted_sides}
use Rattle.patch_layout.proofs.Asked.{side_count_is}
use Rattle.patch_layout.proofs.Checking.{bad_judged}
use Rattle.patch_layout.proofs.checker.first_fault.Goals as goal

pub returns-in-Some-bad_touch-clause-first : goal.returns-in-Some-bad_touch-clause-first
returns-in-Some-bad_touch-clause-first c =
    let shaped = c.is_shaped.ensures.0 c.if-not-is_shaped.false in
    let port = c.port_fits.ensures.0 c.if-not-port_fits.false in
    let judged = bad_judged c.args.layout.now c.args.cells.now c.args.touches.now (wanted_sides c.args.axis.now c.args.port) (Some c.in-Some-bad_touch.index) (shaped.as_many_touches ∙ side_count_is c.args.layout.now c.args.axis.now c.args.rotation c.args.port port) c.in-Some-bad_touch.ensures in
    ((((shaped, port), c.in_default.ensures), c.in_default-bad_parent.ensures), judged)

pub returns-in-None-clause-first : goal.returns-in-None-clause-first
returns-in-None-clause-first c =
    let shaped = c.is_shaped.ensures.0 c.if-not-is_shaped.false in
    let port = c.port_fits.ensures.0 c.if-not-port_fits.false in
    let judged = bad_judged c.args.layout.now c.args.cells.now c.args.touches.now (wanted_sides c.args.axis.now c.args.port) None (shaped.as_many_touches ∙ side_count_is c.args.layout.now c.args.axis.now c.args.rotation c.args.port port) c.in-None.ensures in
    ((((shaped, port), c.in_default.ensures), c.in_default-bad_parent.ensures), judged)
