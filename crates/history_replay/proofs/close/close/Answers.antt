use Rattle.std.proofs.Common.{◌≡◌, ◌+◌, ◌∙◌, ap, sym, subst, arith, inl, length, drop, List}
use Rattle.std.specs.Prelude.{All}
use Rattle.std.proofs.lemmas.Bool.{true≢false}
use Rattle.source_model.specs.declared.Register.{Register}
use Rattle.source_model.specs.Circuits.{bits_in}
use Rattle.schedule_text.specs.Pens.{IsWithin}
use Rattle.schedule_text.proofs.Pieces.{firsts_within}
use Rattle.board_core.proofs.WholeRun.{table_length}
use Rattle.history_replay.proofs.Outcomes.{complete_over, over_complete}
use Rattle.history_replay.proofs.Closing.{close_answers}
use Rattle.history_replay.proofs.close.close.Goals as goal

pub returns-then-not-is_complete : goal.returns-then-not-is_complete
returns-then-not-is_complete c = λ table right agree.
    let b = c.args.board.now in
    let count = table_length c.args.circuit.now.items table right ∙ ap length (sym c.requires.products) in
    let number : c.length-first.result + 2 ≡ length b.history + 2 = ap (λ n. n + 2) (c.length-first.ensures ∙ ap length c.history.ensures.value) in
    inl (λ complete. true≢false (sym (c.is_complete.ensures.1 (complete_over b table count complete)) ∙ c.if-not-is_complete.true), number)

pub close_bits-requires-clause-bits : goal.close_bits-requires-clause-bits
close_bits-requires-clause-bits c =
    let size : length c.deref.result.now ≡ bits_in c.args.circuit.now.registers = ap length c.deref.ensures.value ∙ c.in_ok-bits.ensures.size in
    let P : List Register → Type 0 = λ rs. All (IsWithin (length c.deref.result.now)) rs in
    subst P (sym c.as_slice.ensures) (firsts_within (length c.deref.result.now) 0 c.args.circuit.now.registers (omega (arith, size)) c.requires.circuit.firsts_run_on)

pub returns : goal.returns
returns c = λ table right agree.
    let b = c.args.board.now in
    let items = c.args.circuit.now.items in
    let number : c.length-first.result + 2 ≡ length b.history + 2 = ap (λ n. n + 2) (c.length-first.ensures ∙ ap length c.history.ensures.value) in
    let complete = over_complete b table c.history.ensures.legal.legal agree (c.is_complete.ensures.0 c.if-not-is_complete.false) in
    close_answers c.close_bits.result b table c.args.circuit.now.registers c.as_slice.result.now items c.in_ok-bits.bits.items c.deref.result.now (drop c.args.at c.args.text.now) (c.length-first.result + 2) c.as_slice.ensures c.deref.ensures.value c.requires.circuit.firsts_run_on (c.in_ok-bits.ensures.bits table right complete) complete number c.close_bits.ensures
