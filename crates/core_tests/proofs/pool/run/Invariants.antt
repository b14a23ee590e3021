use Rattle.std.proofs.Common.{ℕ, ◌+◌}
use Rattle.magic_pool.specs.Pooled.{HasFewer}
use Rattle.core_tests.proofs.pool.run.Given as goal

abbrev pub invariant-loop-done : goal.invariant-loop-done
invariant-loop-done g l = (n : ℕ) → HasFewer l.fn.pool n → HasFewer l.pool (n + l.done-counter)
