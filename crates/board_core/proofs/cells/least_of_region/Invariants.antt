use Rattle.std.proofs.Common.{ℕ, Option}
use Rattle.pauli_product.specs.Signed.{Signed}
use Rattle.patch_layout.specs.Grid.{Grid}
use Rattle.board_core.specs.inside.Cells.{IsCellBelow, LeastTaken}
use Rattle.board_core.proofs.cells.least_of_region.Given as goal

abbrev pub invariant-loop-cell : goal.invariant-loop-cell
invariant-loop-cell l = (g : Grid) (a : Signed) (f : Option ℕ) → LeastTaken (IsCellBelow g a f l.cells l.cell-index) l.holders l.best
