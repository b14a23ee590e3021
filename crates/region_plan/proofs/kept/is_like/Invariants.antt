use Rattle.region_plan.proofs.Keeping.{SameTo}
use Rattle.region_plan.proofs.kept.is_like.Given as goal

abbrev pub invariant-loop-cell : goal.invariant-loop-cell
invariant-loop-cell l = SameTo l.layout l.ancilla l.cell
