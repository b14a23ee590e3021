use Rattle.std.proofs.Common.{◌≡◌, ℕ, ◌<◌, Some, slice_get}
use Rattle.region_plan.proofs.free.is_any_ready.Given as goal

abbrev pub invariant-loop-count : goal.invariant-loop-count
invariant-loop-count l = (f n : ℕ) → f < l.count-index → slice_get l.counts f ≡ Some n → 0 < n → ⊥
