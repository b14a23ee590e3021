use Rattle.region_plan.specs.Free.{Free}
use Rattle.region_plan.proofs.Serving.{Tried}
use Rattle.region_plan.proofs.growth.region_on.Given as goal

abbrev pub invariant-loop-index : goal.invariant-loop-index
invariant-loop-index l = Tried l.layout (Free l.layout l.held) l.sides l.pair l.index
