use Rattle.std.proofs.Common.{◌≡◌, true}
use Rattle.patch_layout.proofs.Checking.{one_fits, one_bad}
use Rattle.patch_layout.proofs.checker.bad_at.Goals as goal

pub returns-then-touch_fits : goal.returns-then-touch_fits
returns-then-touch_fits c = one_fits c.args.layout.now c.args.cells.now c.args.touches.now c.args.place c.args.side (c.touch_fits.ensures.0 c.if-touch_fits.true)

pub returns-else-touch_fits : goal.returns-else-touch_fits
returns-else-touch_fits c =
    one_bad c.args.layout.now c.args.cells.now c.args.touches.now c.args.place c.args.side (λ on. let t : c.touch_fits.result ≡ true = c.touch_fits.ensures.1 on in absurd (cc))
