use Rattle.std.proofs.Common.{◌+◌, ◌*◌}
use Rattle.magic_pool.specs.Pooled.{HasFewer}
use Rattle.core_tests.proofs.pool.play.Given as goal

abbrev pub invariant-loop-call : goal.invariant-loop-call
invariant-loop-call g l = HasFewer l.pool (11 * l.call-index + 1)
