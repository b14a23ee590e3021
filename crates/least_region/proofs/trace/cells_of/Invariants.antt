use Rattle.least_region.specs.inside.Trace.{ListedTo}
use Rattle.least_region.proofs.trace.cells_of.Given as goal

abbrev pub invariant-loop-cell : goal.invariant-loop-cell
invariant-loop-cell l = ListedTo l.marks l.cells.items l.cell
