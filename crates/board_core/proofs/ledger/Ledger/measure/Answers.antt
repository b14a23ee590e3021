use Rattle.std.proofs.Common.{◌<◌, Some, length, subst, sym, ap, ◌∙◌}
use Rattle.std.proofs.lemmas.List.{with_items_is}
use Rattle.board_core.specs.declared.board.Standing.{Standing}
use Rattle.board_core.specs.inside.Kept.{Kept, Tables}
use Rattle.board_core.specs.declared.bits.Written.{Written}
use Rattle.board_core.specs.inside.Bits.{after_write}
use Rattle.board_core.proofs.Noting.{written, measure_noted}
use Rattle.board_core.proofs.ledger.Ledger.measure.Goals as goal

pub returns : goal.returns
returns c j h s k e axis bit a is =
    let size = c.note_done.auto.standings ∙ ap length c.deref_mut-2.ensures.value in
    let back = with_items_is c.self.inside.standings c.note_done.new.standings (size ∙ sym c.self.inside.standings.ok.0) in
    let size-b = c.write_bit.ensures.sizes ∙ ap length c.deref_mut.ensures.value in
    let back-b = with_items_is c.self.inside.bits c.write_bit.new.bits (size-b ∙ sym c.self.inside.bits.ok.0) in
    measure_noted j h c.args.p c.args.place c.args.bit c.args.raw c.effective_now-effective.result s c.args.own.now _ _ _ _ c.effective_now-effective.new.room (subst (Kept j h) (sym c.self.view_is) k) e axis bit a is
    c.effective_now-effective.ensures.room c.effective_now-effective.ensures.value c.effective_now-effective.ensures.size (subst (λ (t : Tables). c.args.bit < length t.bits) (sym c.self.view_is) c.requires.bit)
    (written c.self.inside.bits.items c.deref_mut.result.now c.write_bit.new.bits _ c.args.bit (λ (x : Written). after_write x c.args.p c.effective_now-effective.result) c.deref_mut.ensures.value back-b c.write_bit.ensures.written)
    c.note_done.ensures.done
    (written c.self.inside.standings.items c.deref_mut-2.result.now c.note_done.new.standings _ c.args.p (λ (s : Standing). record s { deliver = Some c.args.place }) c.deref_mut-2.ensures.value back c.note_done.ensures.places)
