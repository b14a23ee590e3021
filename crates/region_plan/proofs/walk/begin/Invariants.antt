use Rattle.region_plan.specs.inside.Walk.{BegunTo}
use Rattle.region_plan.proofs.walk.begin.Given as goal

abbrev pub invariant-loop-start : goal.invariant-loop-start
invariant-loop-start l = BegunTo l.layout l.held l.pair l.start-index l.queue.items l.seen
