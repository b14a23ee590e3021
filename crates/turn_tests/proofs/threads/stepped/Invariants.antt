use Rattle.grid_lock.specs.Passes.{IsPassOf, IsSamePass}
use Rattle.turn_tests.proofs.threads.stepped.Given as goal

abbrev pub invariant-loop : goal.invariant-loop
invariant-loop l = IsPassOf l.fn.grid l.pass × IsSamePass l.fn.pass l.pass
