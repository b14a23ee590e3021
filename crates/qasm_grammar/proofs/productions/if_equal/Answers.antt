use Rattle.std.proofs.Common.{◌∙◌, sym, refl}
use Rattle.std.proofs.lemmas.Result.{err_from_is_err_and}
use Rattle.qasm_grammar.specs.declared.follow.Refusal.TheVariants.{Unsupported}
use Rattle.qasm_grammar.specs.declared.terminal.Terminal.TheVariants.{Pauli, Word}
use Rattle.qasm_grammar.specs.Forms.{Form, never, ◌⨾◌, ◌or◌, next, may_end}
use Rattle.qasm_grammar.specs.Grammar.{call_of, if_equal}
use Rattle.qasm_grammar.proofs.Starts.{if_named, if_word}
use Rattle.qasm_grammar.proofs.Steps.{stopped_along}
use Rattle.qasm_grammar.proofs.productions.if_equal.Goals as goal

abbrev choice : Form → Form
choice k = (call_of Pauli or never Unsupported Word) ⨾ k

pub returns-in_err-headed-clause-form : goal.returns-in_err-headed-clause-form
unfolding next may_end ◌⨾◌ ◌or◌ call_of if_equal
returns-in_err-headed-clause-form c = λ k r.
    let p = err_from_is_err_and c.from_residual.result c.from_residual.ensures.1 in
    rw (p.1, p.2) (c.in_err-headed.ensures.form (choice k) refl)

pub returns-then-is_next-clause-form : goal.returns-then-is_next-clause-form
unfolding next may_end ◌⨾◌ ◌or◌ call_of if_equal
returns-then-is_next-clause-form c = λ k r. c.in_ok-headed.ensures.form (choice k) refl ∙ if_word k _ _ (sym c.if-is_next.ensures)

pub returns-in_err-call-clause-form : goal.returns-in_err-call-clause-form
unfolding next may_end ◌⨾◌ ◌or◌ call_of if_equal
returns-in_err-call-clause-form c = λ k r.
    let p = err_from_is_err_and c.from_residual-in_err-call.result c.from_residual-in_err-call.ensures.1 in
    rw (p.1, p.2) (stopped_along _ _ _ (c.in_ok-headed.ensures.form (choice k) refl ∙ if_named k _ _ (sym c.if-is_next.ensures)) (c.in_err-call.ensures.form k r))

pub returns-clause-form : goal.returns-clause-form
unfolding next may_end ◌⨾◌ ◌or◌ call_of if_equal
returns-clause-form c = λ k r. c.in_ok-headed.ensures.form (choice k) refl ∙ if_named k _ _ (sym c.if-is_next.ensures) ∙ c.in_ok-call.ensures.form k r
