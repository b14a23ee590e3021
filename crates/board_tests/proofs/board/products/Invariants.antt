use Rattle.std.proofs.Common.{◌≡◌, length}
use Rattle.std.specs.List.{All}
use Rattle.board_tests.specs.Rows.{IsOnTwo}
use Rattle.board_tests.proofs.board.products.Given as goal

abbrev pub invariant-loop-at : goal.invariant-loop-at
invariant-loop-at l = record {
  each : All IsOnTwo l.list.items;
  count : length l.list.items ≡ l.at;
}
