use Rattle.std.proofs.Common.{Ok, refl, sym, ap, ◌∙◌, drop}
use Rattle.std.proofs.lemmas.Result.{err_from_is_err_and}
use Rattle.patch_base.specs.Texts.{lines, words}
use Rattle.product_list.specs.ListText.{header_of, with_lines}
use Rattle.product_list.proofs.Texts.{list_long, list_empty, list_headless, list_headed, fails_at}
use Rattle.product_list.proofs.list.read.Goals as goal

pub returns-then-text-gt-BYTES : goal.returns-then-text-gt-BYTES
returns-then-text-gt-BYTES c = rw c.at.ensures (list_long c.args.text.now c.if-text-gt-BYTES.true)

pub returns-in_default : goal.returns-in_default
returns-in_default c = rw c.at-in_default.ensures (list_empty c.args.text.now (c.in_default.ensures.end.0 refl))

pub returns-in-Err : goal.returns-in-Err
returns-in-Err c = rw c.at-in-Err.ensures (list_headless c.args.text.now _ _ c.in-Err.kind c.if-text-gt-BYTES.false c.in-Some.ensures.lines (ap (λ w. header_of (words w)) (sym c.after_key.ensures) ∙ c.in-Err.ensures.err))

pub returns-in_err-read : goal.returns-in_err-read
returns-in_err-read c =
    let p = err_from_is_err_and c.from_residual.result c.from_residual.ensures.1 in
    let headed = list_headed c.args.text.now _ _ c.in-Ok.header.two c.in-Ok.header.qubits c.if-text-gt-BYTES.false c.in-Some.ensures.lines (ap (λ w. header_of (words w)) (sym c.after_key.ensures) ∙ c.in-Ok.ensures.ok) in
    rw (p.1, p.2) (fails_at c.in_err-read.field-0.0 _ _ (headed ∙ ap (λ d. with_lines c.in-Ok.header.two 2 d (lines (drop c.in-Some.line.next c.args.text.now))) (sym c.new-draft.ensures)) c.in_err-read.ensures)

pub returns : goal.returns
returns c =
    let headed = list_headed c.args.text.now _ _ c.in-Ok.header.two c.in-Ok.header.qubits c.if-text-gt-BYTES.false c.in-Some.ensures.lines (ap (λ w. header_of (words w)) (sym c.after_key.ensures) ∙ c.in-Ok.ensures.ok) in
    headed ∙ ap (λ d. with_lines c.in-Ok.header.two 2 d (lines (drop c.in-Some.line.next c.args.text.now))) (sym c.new-draft.ensures) ∙ c.in_ok-read.ensures ∙ ap (λ d. Ok d) (sym c.into_circuit.ensures)
