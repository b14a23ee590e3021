use Rattle.std.proofs.Common.{ℕ, ◌<◌}
use Rattle.patch_layout.specs.Grid.{IsPort}
use Rattle.patch_layout.proofs.openness.has_port.Given as goal

abbrev pub invariant-loop-cell : goal.invariant-loop-cell
invariant-loop-cell l = (m : ℕ) → m < l.cell → (f : ℕ) → IsPort l.layout f m → ⊥
