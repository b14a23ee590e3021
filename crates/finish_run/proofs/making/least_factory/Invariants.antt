use Rattle.std.proofs.Common.{ℕ, ◌<◌}
use Rattle.finish_run.specs.Next.{IsFactory}
use Rattle.finish_run.proofs.making.least_factory.Given as goal

abbrev pub invariant-loop-factory : goal.invariant-loop-factory
invariant-loop-factory l = (f : ℕ) → f < l.factory → IsFactory l.layout f → ⊥
