use Rattle.std.proofs.lemmas.Result.{err_from_is_err_and}
use Rattle.qasm_grammar.specs.Forms.{◌⨾◌}
use Rattle.qasm_grammar.proofs.productions.creg.Goals as goal

pub returns-in_err-end-clause-form : goal.returns-in_err-end-clause-form
unfolding ◌⨾◌
returns-in_err-end-clause-form c = λ k r.
    let p = err_from_is_err_and c.from_residual.result c.from_residual.ensures.1 in
    rw (p.1, p.2) (c.in_err-end.ensures.form k r)
