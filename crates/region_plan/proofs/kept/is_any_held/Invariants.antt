use Rattle.std.proofs.Common.{◌≡◌, ℕ, false, ◌<◌}
use Rattle.region_plan.specs.Free.{IsUnheld}
use Rattle.region_plan.proofs.kept.is_any_held.Given as goal

abbrev pub invariant-loop-by : goal.invariant-loop-by
invariant-loop-by l = l.any ≡ false → (c : ℕ) → c < l.by-index → IsUnheld l.held c
