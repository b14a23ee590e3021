use Rattle.std.proofs.Common.{◌+◌, ◌-◌, ◌*◌, ◌<◌, ◌≤◌, length}
use Rattle.router_work.specs.Passing.{IsStepOf, Passed}
use Rattle.router_work.specs.Ends.{IsFull}
use Rattle.router_work.proofs.maker.fill.Given as goal

abbrev pub invariant-loop-refusals : goal.invariant-loop-refusals
invariant-loop-refusals l = record {
  few : l.refusals ≤ 64;
  passed : Passed (IsStepOf l.factory) l.fn.pass l.pass;
  turned : l.fn.pass.view.turns + l.refusals ≤ l.pass.view.turns;
  full : 0 < l.refusals → IsFull l.pass l.factory;
}

abbrev pub decreases-loop-refusals : goal.decreases-loop-refusals
decreases-loop-refusals l = (1048576 - length l.pass.view.seen) * 65 + (64 - l.refusals)
