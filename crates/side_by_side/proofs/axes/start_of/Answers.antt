use Rattle.std.proofs.Common.{◌≡◌, ◌<◌, ◌≤◌, length, get_or, ap, ◌∙◌, arith}
use Rattle.source_model.specs.declared.Circuit.{Circuit}
use Rattle.side_by_side.specs.declared.joining.Span.{Span}
use Rattle.side_by_side.specs.Joined.{bits_of, products_in, spans_of}
use Rattle.side_by_side.proofs.Shares.{all_products}
use Rattle.side_by_side.proofs.Sharing.{span_at, span_count, start_at, start_past}
use Rattle.side_by_side.proofs.axes.start_of.Goals as goal

pub returns-then-program-spans : goal.returns-then-program-spans
returns-then-program-spans c = λ cs j.
    let i = c.args.program in
    let d : Span = record { qubit = 0; product = 0; bit = 0; hidden = 0 } in
    let same : c.as_slice-spans.result.now ≡ spans_of cs = c.as_slice-spans.ensures ∙ j.spans in
    let low : i < length cs = omega (arith, c.if-program-spans.true, ap length same, span_count cs) in
    start_at cs i (get_or c.as_slice-spans.result.now i d) (ap (λ xs. get_or xs i d) same ∙ span_at cs i d low)

pub returns : goal.returns
returns c = λ cs j.
    let same : c.as_slice-spans.result.now ≡ spans_of cs = c.as_slice-spans.ensures ∙ j.spans in
    let past : length cs ≤ c.args.program = omega (arith, c.if-program-spans.false, ap length same, span_count cs) in
    start_past cs c.args.program c.args.joined.now.circuit.qubits c.args.products past (ap (λ (x : Circuit). x.qubits) j.circuit)
    (c.requires.products ∙ (ap (λ (x : Circuit). products_in x.items) j.circuit ∙ all_products 0 0 (bits_of cs) cs))
