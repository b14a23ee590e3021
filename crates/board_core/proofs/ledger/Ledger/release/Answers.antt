use Rattle.std.proofs.Common.{Some, length, subst, sym, ap, ◌∙◌}
use Rattle.std.proofs.lemmas.List.{with_items_is}
use Rattle.board_core.specs.declared.board.Standing.{Standing}
use Rattle.board_core.specs.inside.Kept.{Kept}
use Rattle.board_core.proofs.Noting.{written, release_noted}
use Rattle.board_core.proofs.ledger.Ledger.release.Goals as goal

pub returns : goal.returns
returns c j h k a is =
    let standings = c.note_release.new.standings in
    let size = c.note_release.auto.standings ∙ ap length c.deref_mut.ensures.value in
    let back = with_items_is c.self.inside.standings standings (size ∙ sym c.self.inside.standings.ok.0) in
    release_noted j h c.args.p c.args.place _ _ _ (subst (Kept j h) (sym c.self.view_is) k) a is
    (written c.self.inside.standings.items c.deref_mut.result.now standings _ c.args.p (λ (s : Standing). record s { release = Some c.args.place }) c.deref_mut.ensures.value back c.note_release.ensures)
    c.free.ensures.size c.free.ensures.freed
