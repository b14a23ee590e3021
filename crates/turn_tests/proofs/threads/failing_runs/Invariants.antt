use Rattle.std.proofs.Common.{◌≡◌, length}
use Rattle.turn_tests.proofs.threads.failing_runs.Given as goal

abbrev pub invariant-loop-run : goal.invariant-loop-run
invariant-loop-run l = length l.fails.items ≡ l.run
