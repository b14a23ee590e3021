use Rattle.std.proofs.Common.{◌∙◌, sym, refl}
use Rattle.std.proofs.lemmas.Result.{err_from_is_err_and}
use Rattle.qasm_grammar.specs.declared.terminal.Terminal.TheVariants.{Semicolon}
use Rattle.qasm_grammar.specs.Forms.{Form, one, both, ◌⨾◌, ◌or◌, next, may_end}
use Rattle.qasm_grammar.specs.Grammar.{include}
use Rattle.qasm_grammar.proofs.Files.{file, other_file, known_file}
use Rattle.qasm_grammar.proofs.Steps.{stopped_along}
use Rattle.qasm_grammar.proofs.productions.include.Goals as goal

abbrev ending : Form → Form
ending k = both (one Semicolon) k

pub returns-in_err-named-clause-form : goal.returns-in_err-named-clause-form
unfolding next may_end ◌⨾◌ ◌or◌ include
returns-in_err-named-clause-form c = λ k r.
    let p = err_from_is_err_and c.from_residual.result c.from_residual.ensures.1 in
    rw (p.1, p.2) (c.in_err-named.ensures.form (file (ending k)) refl)

pub returns-then-is_next-clause-form : goal.returns-then-is_next-clause-form
unfolding next may_end ◌⨾◌ ◌or◌ include
returns-then-is_next-clause-form c = λ k r. c.in_ok-named.ensures.form (file (ending k)) refl ∙ other_file (ending k) _ _ (sym c.if-is_next.ensures)

pub returns-in_err-end-clause-form : goal.returns-in_err-end-clause-form
unfolding next may_end ◌⨾◌ ◌or◌ include
returns-in_err-end-clause-form c = λ k r.
    let p = err_from_is_err_and c.from_residual-in_err-end.result c.from_residual-in_err-end.ensures.1 in
    rw (p.1, p.2) (stopped_along _ _ _ (c.in_ok-named.ensures.form (file (ending k)) refl ∙ known_file (ending k) _ _ (sym c.if-is_next.ensures)) (c.in_err-end.ensures.form k r))

pub returns-clause-form : goal.returns-clause-form
unfolding next may_end ◌⨾◌ ◌or◌ include
returns-clause-form c = λ k r. c.in_ok-named.ensures.form (file (ending k)) refl ∙ known_file (ending k) _ _ (sym c.if-is_next.ensures) ∙ c.in_ok-end.ensures.form k r
