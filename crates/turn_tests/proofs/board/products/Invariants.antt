use Rattle.std.proofs.Common.{◌≡◌, length}
use Rattle.std.specs.List.{All}
use Rattle.turn_tests.specs.Rows.{IsServed}
use Rattle.turn_tests.proofs.board.products.Given as goal

abbrev pub invariant-loop-at : goal.invariant-loop-at
invariant-loop-at l = record {
  each : All (IsServed l.fn.rotations) l.list.items;
  count : length l.list.items ≡ l.at;
}
