use Rattle.least_region.specs.inside.Growth.{Merged}
use Rattle.least_region.proofs.merge.merge.Given as goal

abbrev pub invariant-loop-cell : goal.invariant-loop-cell
invariant-loop-cell l = Merged l.one l.other l.limit l.fn.row l.row l.cell
