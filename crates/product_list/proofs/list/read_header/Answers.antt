use Rattle.std.proofs.Common.{sym, ◌∙◌}
use Rattle.std.proofs.lemmas.Result.{err_from_is_err_and}
use Rattle.product_list.proofs.Texts.{header_none, header_unversioned, header_unsized, header_some}
use Rattle.product_list.proofs.list.read_header.Goals as goal

pub returns-in-None-clause-err : goal.returns-in-None-clause-err
returns-in-None-clause-err c = header_none _ (sym c.of-words.ensures ∙ c.in-None.ensures.end.0)

pub returns-in_err-two-in-Some-clause-err : goal.returns-in_err-two-in-Some-clause-err
returns-in_err-two-in-Some-clause-err c =
    let p = err_from_is_err_and c.from_residual.result c.from_residual.ensures.1 in
    rw (p.1, p.2) (header_unversioned _ _ _ _ (sym c.of-words.ensures ∙ c.in-Some.ensures.word) (sym c.in_err-two-in-Some.ensures))

pub returns-in_err-qubits-clause-err : goal.returns-in_err-qubits-clause-err
returns-in_err-qubits-clause-err c =
    let p = err_from_is_err_and c.from_residual-in_err-qubits.result c.from_residual-in_err-qubits.ensures.1 in
    rw (p.1, p.2) (header_unsized _ _ _ c.in_ok-two-in-Some.two _ (sym c.of-words.ensures ∙ c.in-Some.ensures.word) (sym c.in_ok-two-in-Some.ensures) (sym c.in_err-qubits.ensures.value))

pub returns-clause-ok : goal.returns-clause-ok
returns-clause-ok c = header_some _ _ _ c.in_ok-two-in-Some.two _ (sym c.of-words.ensures ∙ c.in-Some.ensures.word) (sym c.in_ok-two-in-Some.ensures) (sym c.in_ok-qubits.ensures.value)
