use Rattle.board_core.specs.Shows.{IsMadeFor}
use Rattle.grid_lock.specs.Passes.{IsPassOf}
use Rattle.number_share.specs.Hands as shares
use Rattle.router_work.specs.Passing.{Passed}
use Rattle.live_readout.specs.Entries.{IsTaking}
use Rattle.live_readout.proofs.router.take_numbers.Given as goal

abbrev pub invariant-loop-try : goal.invariant-loop-try
invariant-loop-try g l = record {
  grid : IsPassOf l.shared.grid.now l.pass;
  passed : Passed IsTaking l.fn.pass l.pass;
  hand : shares.IsHandOf l.shared.share.now l.hand;
  look : IsMadeFor l.shared.grid.now.opened l.look;
}
