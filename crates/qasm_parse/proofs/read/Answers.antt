use Rattle.std.proofs.Common.{refl}
use Rattle.std.proofs.lemmas.Result.{err_from_is_err_and}
use Rattle.qasm_grammar.specs.Forms.{done}
use Rattle.qasm_parse.proofs.Passing.{version_stops, standing_first, standing_next, standing_stops, standing_breaks, standing_last}
use Rattle.qasm_parse.proofs.read.Goals as goal

pub returns-in_err-at : goal.returns-in_err-at
returns-in_err-at c =
    let p = err_from_is_err_and c.from_residual-in_err-at.result c.from_residual-in_err-at.ensures.1 in
    rw (p.1, p.2) (version_stops c.args.source.now c.in_err-at.field-0.0 (rw (← c.in_ok-found.ensures, ← c.deref.ensures.value) (c.in_err-at.ensures.form done refl)))

pub reading-init : goal.reading-init
reading-init c = rw c.nothing_known-known.ensures
    (standing_first c.args.source.now c.in_ok-found.found.items c.in_ok-at.at c.in_ok-found.ensures (rw (← c.deref.ensures.value) c.in_ok-at.ensures.within) (rw (← c.deref.ensures.value) (c.in_ok-at.ensures.form done refl)))

pub returns-in_err-sentence : goal.returns-in_err-sentence
returns-in_err-sentence c =
    let p = err_from_is_err_and c.from_residual-in_err-sentence.result c.from_residual-in_err-sentence.ensures.1 in
    rw (p.1, p.2) (standing_stops c.args.source.now c.reading.found.items c.reading.known c.reading.at c.in_err-sentence.field-0.0 c.reading.invariant (rw (← c.as_slice.ensures.value) c.reading-test.true) (rw (← c.deref-in-reading.ensures.value) (c.in_err-sentence.ensures.form done refl)))

pub returns-in_err-known : goal.returns-in_err-known
returns-in_err-known c =
    let p = err_from_is_err_and c.from_residual-in_err-known.result c.from_residual-in_err-known.ensures.1 in
    rw (p.1, p.2)
    (standing_breaks c.args.source.now c.reading.found.items c.reading.known c.reading.at c.in_ok-sentence.end c.in_ok-sentence.sentence c.in_err-known.field-0.0 c.reading.invariant
    (rw (← c.deref-in-reading.ensures.value) (c.in_ok-sentence.ensures.form done refl))
    (rw (← c.deref-in-reading.ensures.value) c.in_ok-sentence.ensures.spelled)
    c.in_err-known.ensures)

pub reading-preserved : goal.reading-preserved
reading-preserved c =
    standing_next c.args.source.now c.reading.found.items c.in_ok-found-2.found.items c.reading.known c.in_ok-known.known c.reading.at c.in_ok-sentence.end c.in_ok-sentence.sentence c.reading.invariant
    (rw (← c.deref-in-reading.ensures.value) c.in_ok-sentence.ensures.within.1)
    (rw (← c.deref-in-reading.ensures.value) (c.in_ok-sentence.ensures.form done refl))
    (rw (← c.deref-in-reading.ensures.value) c.in_ok-sentence.ensures.spelled)
    c.in_ok-known.ensures c.in_ok-found-2.ensures

pub returns : goal.returns
returns c = standing_last c.args.source.now c.reading.found.items c.reading.known c.reading.at c.reading.invariant (rw (← c.as_slice.ensures.value) c.reading-test.false)
