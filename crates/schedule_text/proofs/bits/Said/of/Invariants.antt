use Rattle.std.proofs.Common.{◌≡◌, ◌++◌, List}
use Rattle.board_core.specs.declared.Noted.{Noted}
use Rattle.board_core.specs.History.{entries, delivered}
use Rattle.board_core.specs.View.{claimed_axis}
use Rattle.schedule_text.specs.inside.Bits.{Tells, claimed_sign, raw_outcome}
use Rattle.schedule_text.proofs.bits.Said.of.Given as goal

abbrev pub invariant-loop-noted : goal.invariant-loop-noted
invariant-loop-noted l = record {
  heard : (done : List Noted) × ((done ++ l.noted-iterator ≡ l.history) × (Tells l.fn.products (λ p. claimed_sign (claimed_axis (entries done) p)) l.said.signs.items × Tells l.fn.products (λ p. raw_outcome (delivered (entries done) p)) l.said.raws.items));
}
