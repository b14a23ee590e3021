use Rattle.std.proofs.Common.{ℕ, ◌<◌}
use Rattle.patch_layout.specs.Grid.{IsAncilla}
use Rattle.patch_layout.proofs.openness.first_cell.Given as goal

abbrev pub invariant-loop-cell : goal.invariant-loop-cell
invariant-loop-cell l = (m : ℕ) → m < l.cell → IsAncilla l.layout m → ⊥
