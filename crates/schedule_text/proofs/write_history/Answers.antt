use Rattle.std.proofs.Common.{◌∷◌, [], ◌++◌}
use Rattle.std.specs.Prelude.{flat_map}
use Rattle.std.proofs.lemmas.List.{append-nil}
use Rattle.schedule_text.specs.Text.{text_of, bits_text, bit_in, header_line, two}
use Rattle.schedule_text.specs.inside.Pens.{entry_text}
use Rattle.schedule_text.proofs.Pieces.{text_parts}
use Rattle.patch_base.proofs.Passing.{passes_start, passes_put, passes_then, began_first, grew_all, began_all, on_err, map_ok, map_err}
use Rattle.schedule_text.proofs.write_history.Goals as goal

pub returns-in_err-put_entries-clause-prefix : goal.returns-in_err-put_entries-clause-prefix
returns-in_err-put_entries-clause-prefix g c =
    let bit = bit_in c.args.bits.now in
    let begun = passes_put c.put.new.self (header_line two ++ 10 ∷ []) (passes_start (g.O.Sink.taken c.args.out.now) c.new-pen.result) c.put.ensures in
    on_err _ c.from_residual.result (began_first _ (flat_map entry_text c.args.history.now) (bits_text c.args.circuit.now.registers bit) (text_of two c.args.history.now c.args.circuit.now.registers bit) c.new-pen.ensures (text_parts c.args.history.now c.args.circuit.now.registers bit) begun c.in_err-put_entries.ensures.prefix)

pub returns-in_err-put_bits-clause-prefix : goal.returns-in_err-put_bits-clause-prefix
returns-in_err-put_bits-clause-prefix g c =
    let bit = bit_in c.args.bits.now in
    let begun = passes_put c.put.new.self (header_line two ++ 10 ∷ []) (passes_start (g.O.Sink.taken c.args.out.now) c.new-pen.result) c.put.ensures in
    on_err _ c.from_residual-in_err-put_bits.result (began_first _ (bits_text c.args.circuit.now.registers bit) [] (text_of two c.args.history.now c.args.circuit.now.registers bit) c.new-pen.ensures (cc (text_parts c.args.history.now c.args.circuit.now.registers bit, append-nil (text_of two c.args.history.now c.args.circuit.now.registers bit))) (passes_then begun c.in_ok-put_entries.ensures.ok) c.in_err-put_bits.ensures.prefix)

pub returns-clause-all : goal.returns-clause-all
returns-clause-all g c =
    let bit = bit_in c.args.bits.now in
    let begun = passes_put c.put.new.self (header_line two ++ 10 ∷ []) (passes_start (g.O.Sink.taken c.args.out.now) c.new-pen.result) c.put.ensures in
    let whole = text_parts c.args.history.now c.args.circuit.now.registers bit in
    map_ok c.send.result (λ p. grew_all _ (text_of two c.args.history.now c.args.circuit.now.registers bit) c.new-pen.ensures whole (passes_then (passes_then begun c.in_ok-put_entries.ensures.ok) c.in_ok-put_bits.ensures.ok) p) c.send.ensures.ok

pub returns-clause-prefix : goal.returns-clause-prefix
returns-clause-prefix g c =
    let bit = bit_in c.args.bits.now in
    let begun = passes_put c.put.new.self (header_line two ++ 10 ∷ []) (passes_start (g.O.Sink.taken c.args.out.now) c.new-pen.result) c.put.ensures in
    let whole = text_parts c.args.history.now c.args.circuit.now.registers bit in
    map_err c.send.result (λ p. began_all _ (text_of two c.args.history.now c.args.circuit.now.registers bit) c.new-pen.ensures whole (passes_then (passes_then begun c.in_ok-put_entries.ensures.ok) c.in_ok-put_bits.ensures.ok) p) c.send.ensures.prefix
