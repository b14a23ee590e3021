use Rattle.grid_lock.specs.Passes.{IsPassOf}
use Rattle.turn_tests.proofs.stale.tried.Given as goal

abbrev pub invariant-loop : goal.invariant-loop
invariant-loop l = IsPassOf l.fn.grid l.pass
