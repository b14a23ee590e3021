use Rattle.std.proofs.Common.{◌≡◌, ◌++◌, List}
use Rattle.board_core.specs.declared.Noted.{Noted}
use Rattle.board_core.specs.History.{entries, delivered}
use Rattle.side_by_side.specs.inside.Told.{Tells}
use Rattle.side_by_side.proofs.axes.Told.of.Given as goal

abbrev pub invariant-loop-noted : goal.invariant-loop-noted
invariant-loop-noted l = record {
  heard : (done : List Noted) × ((done ++ l.noted-iterator ≡ l.history) × Tells l.fn.products (λ p. delivered (entries done) p) l.told.given.items);
}
