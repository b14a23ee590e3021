use Rattle.std.proofs.Common.{◌∙◌, ◌+◌, ◌∷◌, [], sym, refl}
use Rattle.std.proofs.lemmas.Result.{err_from_is_err_and}
use Rattle.qasm_grammar.specs.declared.terminal.Terminal.TheVariants.{Name, Whole, OpenBracket, CloseBracket}
use Rattle.qasm_grammar.specs.Forms.{Form, one, both, optional, ◌⨾◌}
use Rattle.qasm_grammar.specs.Grammar.{arg}
use Rattle.qasm_grammar.specs.Spelling.{fixed, given}
use Rattle.qasm_grammar.proofs.Steps.{opt_skips, at_opt_goes, stopped_along}
use Rattle.qasm_grammar.proofs.Spelled.{spells_more, next_stands}
use Rattle.qasm_grammar.proofs.productions.arg.Goals as goal

abbrev index : Form
index = both (one Whole) (one CloseBracket)

abbrev tail : Form → Form
tail k = both (optional (both (one OpenBracket) index)) k

pub returns-in_err-after-clause-form : goal.returns-in_err-after-clause-form
unfolding arg ◌⨾◌
returns-in_err-after-clause-form c = λ k h.
    let p = err_from_is_err_and c.from_residual.result c.from_residual.ensures.1 in
    rw (p.1, p.2) (c.in_err-after.ensures.form (tail k) refl)

pub returns-then-not-is_next-clause-form : goal.returns-then-not-is_next-clause-form
unfolding arg ◌⨾◌
returns-then-not-is_next-clause-form c = λ k h.
    c.in_ok-after.ensures.form (tail k) refl ∙ opt_skips OpenBracket index k _ _ h.waits (sym c.if-not-is_next.ensures)

pub returns-in_err-end-clause-form : goal.returns-in_err-end-clause-form
unfolding arg ◌⨾◌
returns-in_err-end-clause-form c = λ k h.
    let p = err_from_is_err_and c.from_residual-in_err-end.result c.from_residual-in_err-end.ensures.1 in
    rw (p.1, p.2) (stopped_along _ _ _
    (c.in_ok-after.ensures.form (tail k) refl ∙ at_opt_goes c.args.found.now c.in_ok-after.after OpenBracket index k refl refl h.lives h.apart.0 (sym c.if-not-is_next.ensures))
    (c.in_err-end.ensures.form k h.lives))

pub returns-clause-form : goal.returns-clause-form
unfolding arg ◌⨾◌
returns-clause-form c = λ k h.
    c.in_ok-after.ensures.form (tail k) refl
    ∙ at_opt_goes c.args.found.now c.in_ok-after.after OpenBracket index k refl refl h.lives h.apart.0 (sym c.if-not-is_next.ensures)
    ∙ c.in_ok-end.ensures.form k h.lives

pub returns-clause-spelled : goal.returns-clause-spelled
returns-clause-spelled c =
    let found = c.args.found.now in
    let after = c.in_ok-after.after in
    let front = c.in_ok-after.ensures.spelled in
    let back = c.in_ok-end.ensures.spelled in
    spells_more (given Name c.args.at ∷ []) (fixed OpenBracket ∷ given Whole (after + 1) ∷ fixed CloseBracket ∷ []) found c.args.at after c.in_ok-end.end
    ((front.0, refl), front.1)
    (next_stands found after OpenBracket (sym c.if-not-is_next.ensures), ((back.0, refl), back.1))
