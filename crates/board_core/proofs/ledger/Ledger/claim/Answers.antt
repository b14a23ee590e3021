use Rattle.std.proofs.Common.{Some, length, subst, sym, ap, ◌∙◌}
use Rattle.std.proofs.lemmas.List.{with_items_is}
use Rattle.patch_layout.specs.Grid.{Grid}
use Rattle.board_core.specs.declared.board.Standing.{Standing}
use Rattle.board_core.specs.Legal.{ClaimCell}
use Rattle.board_core.specs.inside.Cells.{Taken}
use Rattle.board_core.specs.inside.Kept.{Kept}
use Rattle.board_core.proofs.Noting.{written, claim_noted}
use Rattle.board_core.proofs.ledger.Ledger.claim.Goals as goal

pub returns-clause-kept : goal.returns-clause-kept
returns-clause-kept c j h k grid a is =
    let holders = c.take_cells.new.holders in
    let size = c.note_claim.auto.standings ∙ ap length c.deref_mut.ensures.value in
    let back = with_items_is c.self.inside.standings c.note_claim.new.standings (size ∙ sym c.self.inside.standings.ok.0) in
    claim_noted j h c.args.p c.args.place c.args.axis.now c.args.port c.take_state.result c.args.cells.now _ _ _ _ (subst (Kept j h) (sym c.self.view_is) k) a is
    (written c.self.inside.standings.items c.deref_mut.result.now c.note_claim.new.standings _ c.args.p (λ (s : Standing). record s { claim = Some c.args.place }) c.deref_mut.ensures.value back c.note_claim.ensures)
    (subst (λ (g : Grid). Taken (ClaimCell g c.args.axis.now c.args.port c.args.cells.now) c.args.p c.self.inside.holders holders) (sym grid) c.take_cells.ensures)
    c.take_state.ensures.fails c.take_state.ensures.makers c.take_state.ensures.history
