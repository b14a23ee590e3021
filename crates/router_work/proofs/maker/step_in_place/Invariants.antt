-- Each step so far was refused.
use Rattle.grid_lock.specs.Passes.{IsPassOf}
use Rattle.router_work.specs.Passing.{IsStepOf, Passed}
use Rattle.router_work.proofs.maker.step_in_place.Given as goal

abbrev pub invariant-loop-again : goal.invariant-loop-again
invariant-loop-again l = record {
  grid : IsPassOf l.grid l.pass;
  passed : Passed (IsStepOf l.factory) l.fn.pass l.pass;
}
