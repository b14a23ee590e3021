use Rattle.std.proofs.Common.{◌≡◌, ℕ, ◌+◌, ◌++◌}
use Rattle.patch_layout.specs.Row.{patch_row, row_grid}
use Rattle.patch_layout.proofs.row.row_sites.Given as goal

abbrev pub invariant-loop-qubit : goal.invariant-loop-qubit
invariant-loop-qubit l = (m : ℕ) → l.qubit + m ≡ l.patches → l.sites.items ++ patch_row l.qubit m ≡ (row_grid l.patches).sites
