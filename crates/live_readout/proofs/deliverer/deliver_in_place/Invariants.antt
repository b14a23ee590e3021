-- Nothing was delivered so far.
use Rattle.std.specs.Prelude.{◌≡◌}
use Rattle.grid_lock.specs.Passes.{IsPassOf}
use Rattle.router_work.specs.Passing.{Passed}
use Rattle.live_readout.specs.inside.Entries.{delivered_by}
use Rattle.live_readout.specs.inside.Workers.{IsAnyHanding}
use Rattle.live_readout.proofs.deliverer.deliver_in_place.Given as goal

abbrev pub invariant-loop-again : goal.invariant-loop-again
invariant-loop-again l = record {
  grid : IsPassOf l.grid l.pass;
  passed : Passed IsAnyHanding l.fn.pass l.pass;
  made : delivered_by l.pass.view.mine ≡ delivered_by l.fn.pass.view.mine;
}
