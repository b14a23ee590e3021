use Rattle.least_region.specs.inside.Growth.{Begun}
use Rattle.least_region.proofs.table.begin.Given as goal

abbrev pub invariant-loop-start : goal.invariant-loop-start
invariant-loop-start l = Begun l.free l.limit l.starts l.row l.start-index
