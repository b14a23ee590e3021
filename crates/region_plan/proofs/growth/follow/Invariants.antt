use Rattle.std.proofs.Common.{◌≡◌, ℕ, List, Option}
use Rattle.patch_layout.specs.declared.layout.Side.{Side}
use Rattle.patch_layout.specs.Grid.{Grid}
use Rattle.region_plan.specs.inside.Follow.{Leading}
use Rattle.region_plan.proofs.Grafting.{Back}
use Rattle.region_plan.proofs.growth.follow.Given as goal

abbrev pub invariant-back : goal.invariant-back
invariant-back l =
    ((g : Grid) (held : List (Option ℕ)) (side : Side) → Leading g held side l.fn.tree l.queue l.fn.met → Back g held side l.fn.tree.tree l.queue l.tree.tree l.at l.place) × (l.tree.size ≡ l.fn.tree.size)

abbrev pub decreases-back : goal.decreases-back
decreases-back l = l.at.steps
