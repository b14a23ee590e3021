use Rattle.grid_lock.specs.Passes.{IsPassOf, IsSamePass}
use Rattle.turn_tests.proofs.refusals.make_state.Given as goal

abbrev pub invariant-loop : goal.invariant-loop
invariant-loop g l = IsPassOf l.fn.grid l.pass × IsSamePass l.fn.pass l.pass
