use Rattle.region_plan.proofs.Porting.{Trying}
use Rattle.region_plan.proofs.ports.join_least_port.Given as goal

abbrev pub invariant-loop-factory : goal.invariant-loop-factory
invariant-loop-factory l = Trying l.layout l.look l.fn.region l.region l.factory
