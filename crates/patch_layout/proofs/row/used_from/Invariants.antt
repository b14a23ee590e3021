use Rattle.std.proofs.Common.{ℕ, ◌<◌, ◌≤◌}
use Rattle.patch_layout.specs.Row.{IsUsed}
use Rattle.patch_layout.proofs.row.used_from.Given as goal

abbrev pub invariant-loop-qubit : goal.invariant-loop-qubit
invariant-loop-qubit l = (q : ℕ) → l.first ≤ q → q < l.qubit → IsUsed l.used q → ⊥
