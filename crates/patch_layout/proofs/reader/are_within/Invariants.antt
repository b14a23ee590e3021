use Rattle.std.proofs.Common.{ℕ, ◌<◌, ◌≡◌, slice_get, Some}
use Rattle.patch_layout.specs.declared.line.Line.{Line}
use Rattle.patch_layout.specs.LayoutText.{cell_of}
use Rattle.patch_layout.proofs.reader.are_within.Given as goal

abbrev pub invariant-loop-line : goal.invariant-loop-line
invariant-loop-line l = (i : ℕ) (k : Line) → i < l.line-index → slice_get l.lines i ≡ Some k → cell_of k < l.cells
