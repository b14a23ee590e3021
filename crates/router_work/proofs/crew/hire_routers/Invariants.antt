use Rattle.std.proofs.Common.{◌≡◌, ◌+◌, length, vec_capacity}
use Rattle.std.specs.List.{All}
use Rattle.board_core.specs.Shows.{IsMadeFor}
use Rattle.number_share.specs.Hands as shares
use Rattle.router_work.specs.inside.Workers.{HasSplit, IsHired}
use Rattle.router_work.proofs.crew.hire_routers.Given as goal

abbrev pub invariant-loop-gate : goal.invariant-loop-gate
invariant-loop-gate g l = record {
  hands : All (shares.IsHandOf l.share) l.hands.items;
  hand_each : length l.hands.items ≡ length l.gates.items;
  looks : All (IsMadeFor l.grid.opened) l.looks.items;
  look_each : length l.looks.items ≡ length l.gates.items;
  hired : All (IsHired l.grid l.outcomes.given (length l.fn.gates.items)) l.workers.items;
  count : length l.workers.items + length l.gates.items ≡ length l.fn.gates.items;
  capacity : vec_capacity l.workers ≡ vec_capacity l.fn.workers;
  first : HasSplit l.fn.first (length l.workers.items) l.first;
}

abbrev pub decreases-loop-gate : goal.decreases-loop-gate
decreases-loop-gate g l = length l.gates.items
