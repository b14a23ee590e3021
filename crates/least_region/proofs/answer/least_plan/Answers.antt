use Rattle.std.proofs.Common.{◌≤◌, arith}
use Rattle.least_region.specs.Least.{width}
use Rattle.least_region.proofs.answer.least_plan.Goals as goal

-- a look of at most six sides has a least region
pub returns-else-sides-gt-MOST_SIDES-2 : goal.returns-else-sides-gt-MOST_SIDES-2
returns-else-sides-gt-MOST_SIDES-2 c =
    let a = c.in-Region.ensures in
    let few : width c.args.look.now ≤ 6 = omega (arith, c.sides_in-sides.ensures) in
    (a.0, a.1, few, a.2, a.3.0 few)
