use Rattle.qasm_grammar.specs.Forms.{◌⨾◌}
use Rattle.qasm_grammar.specs.Grammar.{register}
use Rattle.qasm_grammar.proofs.productions.register.Goals as goal

pub returns-clause-form : goal.returns-clause-form
unfolding register ◌⨾◌
returns-clause-form c = λ k r. c.expect.ensures.form k r
