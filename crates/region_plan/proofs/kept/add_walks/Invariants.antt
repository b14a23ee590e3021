use Rattle.region_plan.specs.inside.Kept.{Suits}
use Rattle.region_plan.proofs.kept.add_walks.Given as goal

abbrev pub invariant-loop-side : goal.invariant-loop-side
invariant-loop-side l = Suits l.layout l.held l.walks.items
