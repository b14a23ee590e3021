use Rattle.std.proofs.Common.{◌≡◌, length}
use Rattle.patch_layout.specs.Tree.{ParentsNamed}
use Rattle.region_plan.proofs.certificate.parents_of.Given as goal

abbrev pub invariant-loop-index : goal.invariant-loop-index
invariant-loop-index l = ParentsNamed l.tree l.places l.parents.items l.index × (length l.parents.items ≡ length l.cells)
