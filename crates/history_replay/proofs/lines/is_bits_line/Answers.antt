use Rattle.std.proofs.Common.{◌≡◌, ◌++◌, sym, ◌∙◌, ap}
use Rattle.std.specs.Prelude.{codes}
use Rattle.std.proofs.lemmas.List.{append_cancel_left}
use Rattle.schedule_text.specs.Text.{bit_in, digits}
use Rattle.history_replay.proofs.lines.is_bits_line.Goals as goal

pub returns : goal.returns
returns c =
    let r = c.args.register.now in
    let word = digits (bit_in c.args.bits.now) r.first r.size in
    let head = (codes "bits " ++ r.name) ++ codes " " in
    let named : c.args.line.now ≡ head ++ c.in-Some.word.now = rw (← c.bytes.ensures) c.in-Some.ensures in (
      (λ t. named ∙ ap (λ w. head ++ w) (c.spells.ensures.0 t)),
      (λ e. c.spells.ensures.1 (append_cancel_left head c.in-Some.word.now word (sym named ∙ e))),
    )
