use Rattle.grid_lock.specs.Passes.{IsPassOf}
use Rattle.board_core.specs.Shows.{IsMadeFor}
use Rattle.turn_tests.proofs.stale.looked.Given as goal

abbrev pub invariant-loop : goal.invariant-loop
invariant-loop l = IsPassOf l.fn.grid l.pass × IsMadeFor l.fn.grid.opened l.seen
