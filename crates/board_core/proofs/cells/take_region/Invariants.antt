use Rattle.std.proofs.Common.{◌≡◌, ℕ, Option, length}
use Rattle.pauli_product.specs.Signed.{Signed}
use Rattle.patch_layout.specs.Grid.{Grid}
use Rattle.board_core.specs.inside.Cells.{IsCellBelow, Taken}
use Rattle.board_core.proofs.cells.take_region.Given as goal

abbrev pub invariant-loop-cell : goal.invariant-loop-cell
invariant-loop-cell l = record {
  size : length l.holders ≡ length l.initial.holders;
  taken : (g : Grid) (a : Signed) (f : Option ℕ) → Taken (IsCellBelow g a f l.cells l.cell-index) l.by l.initial.holders l.holders;
}
