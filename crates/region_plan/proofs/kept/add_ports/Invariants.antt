use Rattle.region_plan.specs.inside.Kept.{Suits}
use Rattle.region_plan.proofs.kept.add_ports.Given as goal

abbrev pub invariant-loop-factory : goal.invariant-loop-factory
invariant-loop-factory l = Suits l.layout l.held l.walks.items
