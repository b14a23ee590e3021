use Rattle.region_plan.specs.inside.Kept.{AncillaTo}
use Rattle.region_plan.proofs.kept.ancilla_of.Given as goal

abbrev pub invariant-loop-cell : goal.invariant-loop-cell
invariant-loop-cell l = AncillaTo l.layout l.cell l.ancilla.items
