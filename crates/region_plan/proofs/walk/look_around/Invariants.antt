use Rattle.region_plan.proofs.Seeking.{Around}
use Rattle.region_plan.proofs.walk.look_around.Given as goal

abbrev pub invariant-loop-neighbour : goal.invariant-loop-neighbour
invariant-loop-neighbour l = Around l.layout l.held l.fn.queue.items l.queue.items l.head l.fn.seen l.seen l.at l.neighbour-items l.neighbour-index
