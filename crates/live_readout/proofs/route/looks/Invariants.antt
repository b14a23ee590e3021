use Rattle.std.proofs.Common.{◌≡◌, ◌≤◌, length, vec_capacity}
use Rattle.std.specs.List.{All}
use Rattle.router_work.specs.inside.Workers.{IsLookOf}
use Rattle.live_readout.proofs.route.looks.Given as goal

abbrev pub invariant-loop : goal.invariant-loop
invariant-loop l = record {
  made : All (IsLookOf l.layout l.qubits) l.looks.items;
  count : length l.looks.items ≡ l.counter;
  room : l.count ≤ vec_capacity l.looks;
}
