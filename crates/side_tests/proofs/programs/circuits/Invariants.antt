use Rattle.std.proofs.Common.{◌≡◌, length}
use Rattle.std.specs.List.{All}
use Rattle.source_model.specs.Circuits.{WellFormed}
use Rattle.side_tests.proofs.programs.circuits.Given as goal

abbrev pub invariant-loop-at : goal.invariant-loop-at
invariant-loop-at l = record {
  each : All WellFormed l.list.items;
  count : length l.list.items ≡ l.at;
}
