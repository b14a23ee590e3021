use Rattle.std.proofs.Common.{◌≡◌, length}
use Rattle.std.specs.List.{All}
use Rattle.router_tests.specs.inside.Jobs.{Suits}
use Rattle.router_tests.proofs.board.products.Given as goal

abbrev pub invariant-loop-at : goal.invariant-loop-at
invariant-loop-at l = record {
  each : All (Suits l.job.qubits l.job.rotations) l.list.items;
  count : length l.list.items ≡ l.at;
}
