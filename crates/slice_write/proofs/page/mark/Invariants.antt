use Rattle.std.proofs.Common.{◌≡◌, ◌++◌, take, map}
use Rattle.slice_write.specs.inside.Marks.{mark}
use Rattle.slice_write.proofs.page.mark.Given as goal

abbrev pub invariant-loop-cell : goal.invariant-loop-cell
invariant-loop-cell l = l.marks.items ≡ l.initial.marks.items ++ map (mark l.product) (take l.cell-index l.cells)
