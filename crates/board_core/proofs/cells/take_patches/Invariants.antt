use Rattle.std.proofs.Common.{◌≡◌, ℕ, ◌+◌, List, Option, length}
use Rattle.board_core.specs.inside.Cells.{IsCellBelow, Taken}
use Rattle.board_core.proofs.cells.take_patches.Given as goal

abbrev pub invariant-loop-qubit : goal.invariant-loop-qubit
invariant-loop-qubit l = record {
  size : length l.holders ≡ length l.initial.holders;
  taken : (f : Option ℕ) (cells : List ℕ) (first : List (Option ℕ)) → Taken (IsCellBelow l.layout l.axis f cells (length cells)) l.by first l.initial.holders → Taken (IsCellBelow l.layout l.axis f cells (length cells + l.qubit)) l.by first l.holders;
}
