-- The turn was held each time so far, and nothing else was learned.
use Rattle.std.proofs.Common.{◌≡◌, ◌+◌, ◌<◌, ◌≤◌}
use Rattle.grid_lock.specs.Passes.{IsPassOf, IsSamePass, IsCalm}
use Rattle.router_work.specs.Waits.{Waited}
use Rattle.router_work.proofs.calls.release.Given as goal

abbrev pub invariant-loop-turn : goal.invariant-loop-turn
invariant-loop-turn l = record {
  grid : IsPassOf l.grid l.pass;
  same : IsSamePass l.initial.pass l.pass;
  waited : Waited l.initial.pass.view l.pass.view;
  met : l.initial.pass.view.met + l._turn ≤ l.pass.view.met;
  calm : 0 < l._turn → IsCalm l.pass;
  node : l.node ≡ l.initial.node;
}
