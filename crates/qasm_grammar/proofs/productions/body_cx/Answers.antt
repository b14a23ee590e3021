use Rattle.std.proofs.lemmas.Result.{err_from_is_err_and}
use Rattle.qasm_grammar.specs.Forms.{◌⨾◌}
use Rattle.qasm_grammar.proofs.productions.body_cx.Goals as goal

pub returns-in_err-formals-clause-form : goal.returns-in_err-formals-clause-form
unfolding ◌⨾◌
returns-in_err-formals-clause-form c = λ k r.
    let p = err_from_is_err_and c.from_residual.result c.from_residual.ensures.1 in
    rw (p.1, p.2) (c.in_err-formals.ensures.form k r)
