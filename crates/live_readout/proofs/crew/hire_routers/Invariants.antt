use Rattle.std.proofs.Common.{◌≡◌, ℕ, ◌+◌, length, vec_capacity}
use Rattle.std.specs.List.{All}
use Rattle.board_core.specs.Shows.{IsMadeFor}
use Rattle.number_share.specs.Hands as shares
use Rattle.router_work.specs.inside.Workers.{HasSplit}
use Rattle.live_readout.specs.inside.Workers.{IsHired}
use Rattle.live_readout.proofs.crew.hire_routers.Given as goal

abbrev pub invariant-loop-gate : goal.invariant-loop-gate
invariant-loop-gate g l = record {
  hands : All (shares.IsHandOf l.shared.share.now) l.hands.items;
  hand_each : length l.hands.items ≡ length l.gates.items;
  looks : All (IsMadeFor l.shared.grid.now.opened) l.looks.items;
  look_each : length l.looks.items ≡ length l.gates.items;
  hired : (m : ℕ) → All (IsHired l.shared.grid.now (length l.fn.gates.items) m) l.workers.items;
  count : length l.workers.items + length l.gates.items ≡ length l.fn.gates.items;
  capacity : vec_capacity l.workers ≡ vec_capacity l.fn.workers;
  first : HasSplit l.fn.first (length l.workers.items) l.first;
}

abbrev pub decreases-loop-gate : goal.decreases-loop-gate
decreases-loop-gate g l = length l.gates.items
