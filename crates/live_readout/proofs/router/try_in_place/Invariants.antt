use Rattle.board_core.specs.Shows.{IsMadeFor}
use Rattle.grid_lock.specs.Passes.{IsPassOf}
use Rattle.router_work.specs.Passing.{Passed}
use Rattle.live_readout.specs.Entries.{IsTaking}
use Rattle.live_readout.proofs.router.try_in_place.Given as goal

abbrev pub invariant-loop-again : goal.invariant-loop-again
invariant-loop-again g l = record {
  grid : IsPassOf l.shared.grid.now l.pass;
  passed : Passed IsTaking l.fn.pass l.pass;
  look : IsMadeFor l.shared.grid.now.opened l.look;
}
