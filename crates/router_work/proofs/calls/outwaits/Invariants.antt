-- Nothing but the length was read so far.
use Rattle.grid_lock.specs.Passes.{IsPassOf, IsSamePass, IsCalm}
use Rattle.router_work.specs.Waits.{OnlyRead}
use Rattle.router_work.proofs.calls.outwaits.Given as goal

abbrev pub invariant-loop-read : goal.invariant-loop-read
invariant-loop-read l = record {
  grid : IsPassOf l.grid l.pass;
  same : IsSamePass l.initial.pass l.pass;
  read : OnlyRead l.initial.pass.view l.pass.view;
  calm : IsCalm l.pass;
}
