use Rattle.std.proofs.Common.{ℕ, ◌<◌}
use Rattle.region_plan.specs.Free.{IsHeldAt}
use Rattle.region_plan.proofs.free.is_patch_held.Given as goal

abbrev pub invariant-loop-qubit : goal.invariant-loop-qubit
invariant-loop-qubit l = (q : ℕ) → q < l.qubit → IsHeldAt l.layout l.look q → ⊥
