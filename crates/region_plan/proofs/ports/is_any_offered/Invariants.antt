use Rattle.std.proofs.Common.{ℕ, ◌<◌}
use Rattle.region_plan.specs.Free.{IsOffered}
use Rattle.region_plan.proofs.ports.is_any_offered.Given as goal

abbrev pub invariant-loop-factory : goal.invariant-loop-factory
invariant-loop-factory l = (f : ℕ) → f < l.factory → IsOffered l.layout l.look f → ⊥
