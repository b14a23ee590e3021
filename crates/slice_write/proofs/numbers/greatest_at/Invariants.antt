use Rattle.std.proofs.Common.{◌≡◌, take}
use Rattle.slice_write.specs.inside.Numbers.{greatest_at}
use Rattle.slice_write.proofs.numbers.greatest_at.Given as goal

abbrev pub invariant-loop-cell : goal.invariant-loop-cell
invariant-loop-cell l = l.greatest ≡ greatest_at l.table (take l.cell-index l.cells)
