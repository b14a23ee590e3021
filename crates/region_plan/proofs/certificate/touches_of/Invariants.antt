use Rattle.std.proofs.Common.{◌≡◌, length}
use Rattle.region_plan.specs.inside.Finish.{RenumberedTo}
use Rattle.region_plan.proofs.certificate.touches_of.Given as goal

abbrev pub invariant-loop-place : goal.invariant-loop-place
invariant-loop-place l = RenumberedTo l.tree l.places l.touched l.touches.items l.place-index × (length l.touches.items ≡ l.place-index)
