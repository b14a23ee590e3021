use Rattle.std.proofs.Common.{◌≡◌, length}
use Rattle.region_plan.specs.Free.{Free}
use Rattle.region_plan.proofs.OverSides.{Growing}
use Rattle.region_plan.proofs.growth.grow.Given as goal

abbrev pub invariant-loop-side : goal.invariant-loop-side
invariant-loop-side l = Growing l.layout (Free l.layout l.held) l.fn.tree.tree l.sides l.side-index l.tree.tree l.touched.items × (l.tree.size ≡ l.fn.tree.size) × (length l.seen ≡ length l.fn.seen)
