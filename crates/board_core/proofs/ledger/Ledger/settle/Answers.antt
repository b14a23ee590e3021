use Rattle.std.proofs.Common.{Some, length, subst, sym, ap, ◌∙◌}
use Rattle.std.proofs.lemmas.List.{with_items_is}
use Rattle.board_core.specs.declared.board.Standing.{Standing}
use Rattle.board_core.specs.inside.Kept.{Kept}
use Rattle.board_core.proofs.Noting.{written, settle_noted}
use Rattle.board_core.proofs.ledger.Ledger.settle.Goals as goal

pub returns : goal.returns
returns c j h s k e axis a is =
    let size = c.note_done.auto.standings ∙ ap length c.deref_mut.ensures.value in
    let back = with_items_is c.self.inside.standings c.note_done.new.standings (size ∙ sym c.self.inside.standings.ok.0) in
    settle_noted j h c.args.p c.args.place c.args.flip s c.args.own.now _ _ _ _ (subst (Kept j h) (sym c.self.view_is) k) e axis a is
    c.correct_settled.ensures c.note_done.ensures.done
    (written c.self.inside.standings.items c.deref_mut.result.now c.note_done.new.standings _ c.args.p (λ (s : Standing). record s { deliver = Some c.args.place }) c.deref_mut.ensures.value back c.note_done.ensures.places)
