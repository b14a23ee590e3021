use Rattle.std.proofs.lemmas.Result.{err_from_is_err_and}
use Rattle.qasm_grammar.specs.Forms.{◌⨾◌}
use Rattle.qasm_grammar.specs.Grammar.{named_call}
use Rattle.qasm_grammar.proofs.productions.named_call.Goals as goal

pub returns-in_err-call-clause-form : goal.returns-in_err-call-clause-form
unfolding ◌⨾◌ named_call
returns-in_err-call-clause-form c = λ k r.
    let p = err_from_is_err_and c.from_residual.result c.from_residual.ensures.1 in
    rw (p.1, p.2) (c.in_err-call.ensures.form k r)

pub returns-clause-form : goal.returns-clause-form
unfolding named_call
returns-clause-form c = λ k r. c.in_ok-call.ensures.form k r
