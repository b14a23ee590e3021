use Rattle.std.proofs.Common.{ℕ, ◌+◌, List, Option, length}
use Rattle.board_core.specs.inside.Cells.{IsCellBelow, LeastTaken}
use Rattle.board_core.proofs.cells.least_of_patches.Given as goal

abbrev pub invariant-loop-qubit : goal.invariant-loop-qubit
invariant-loop-qubit l = (f : Option ℕ) (cells : List ℕ) → LeastTaken (IsCellBelow l.layout l.axis f cells (length cells)) l.holders l.fn.region → LeastTaken (IsCellBelow l.layout l.axis f cells (length cells + l.qubit)) l.holders l.best
