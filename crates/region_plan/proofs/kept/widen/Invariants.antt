use Rattle.std.proofs.Common.{ℕ, ◌+◌, ◌-◌, List, Option, length}
use Rattle.patch_layout.specs.Grid.{Grid}
use Rattle.region_plan.specs.inside.Kept.{Suits}
use Rattle.region_plan.proofs.kept.widen.Given as goal

abbrev pub invariant-widen : goal.invariant-widen
invariant-widen l = (g : Grid) (held : List (Option ℕ)) → Suits g held l.fn.walks.items → Suits g held l.walks.items

abbrev pub decreases-widen : goal.decreases-widen
decreases-widen l = l.number + 1 - length l.walks.items
