use Rattle.std.proofs.Common.{List, length, map, ap, ◌∙◌, arith, subst}
use Rattle.std.specs.Prelude.{Option, unwrap_or}
use Rattle.std.proofs.lemmas.List.{take_all}
use Rattle.source_model.specs.declared.Given.{Given}
use Rattle.source_model.specs.declared.Given.TheVariants.{Settled}
use Rattle.source_model.specs.declared.Static.{Static}
use Rattle.board_core.specs.declared.Noted.{Noted}
use Rattle.board_core.specs.History.{delivered, entries}
use Rattle.board_core.specs.Position.{past}
use Rattle.side_by_side.specs.inside.Told.{Tells}
use Rattle.side_by_side.proofs.Sharing.{told_table}
use Rattle.side_by_side.proofs.axes.outcomes_of.Goals as goal

pub returns : goal.returns
returns c = λ table are complete.
    let board = c.args.board.now in
    let told = c.in_ok-told.told.given.items in
    let f : Option Given → Given = λ o. unwrap_or o Settled in
    let tells : Tells (length board.job.products) (λ p. delivered (past board) p) told =
    subst (λ (log : List Noted). Tells (length board.job.products) (λ p. delivered (entries log) p) told) c.history.ensures.value
    (subst (λ (ss : List Static). Tells (length ss) (λ p. delivered (entries c.history.result.now) p) told) c.products.ensures c.in_ok-told.ensures) in
    c.loop-outcome.invariant
    ∙ ap (map f) (take_all c.loop-outcome.outcome-index c.deref-outcome-items.result.now (omega (arith, c.loop-outcome-test.false)) ∙ c.deref-outcome-items.ensures.value)
    ∙ told_table board.job (past board) table told c.history.ensures.legal.legal are complete tells
