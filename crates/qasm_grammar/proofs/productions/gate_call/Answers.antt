use Rattle.std.proofs.Common.{◌∙◌, ◌++◌, ◌∷◌, [], refl}
use Rattle.std.proofs.lemmas.Result.{err_from_is_err_and}
use Rattle.qasm_grammar.specs.declared.terminal.Terminal.TheVariants.{Semicolon, Comma, Open, OpenBracket}
use Rattle.qasm_grammar.specs.Forms.{Form, one, both, ◌⨾◌, ◌or◌, next, may_end}
use Rattle.qasm_grammar.specs.inside.Forms.{Follows}
use Rattle.qasm_grammar.specs.Grammar.{arg, args, brackets, call_of}
use Rattle.qasm_grammar.specs.Spelling.{fixed, given, args_text, brackets_text}
use Rattle.qasm_grammar.proofs.Steps.{stopped_along}
use Rattle.qasm_grammar.proofs.Spelled.{spells_more}
use Rattle.qasm_grammar.proofs.productions.gate_call.Goals as goal

abbrev closing : Form → Form
closing k = both (one Semicolon) k

abbrev listing : Form → Form
listing k = args ⨾ closing k

abbrev bracketing : Form → Form
bracketing k = brackets ⨾ listing k

closes : (k : Form) → Follows (closing k) (OpenBracket ∷ Comma ∷ [])
unfolding next may_end ◌⨾◌ ◌or◌ arg args brackets call_of
closes k = record { lives = refl; waits = refl; apart = (refl, (refl, tt)) }

lists : (k : Form) → Follows (listing k) (Open ∷ [])
unfolding next may_end ◌⨾◌ ◌or◌ arg args brackets call_of
lists k = record { lives = refl; waits = refl; apart = (refl, tt) }

pub returns-in_err-named-clause-form : goal.returns-in_err-named-clause-form
unfolding next may_end ◌⨾◌ ◌or◌ arg args brackets call_of
returns-in_err-named-clause-form c = λ k r.
    let p = err_from_is_err_and c.from_residual.result c.from_residual.ensures.1 in
    rw (p.1, p.2) (c.in_err-named.ensures.form (bracketing k) refl)

pub returns-in_err-bracketed-clause-form : goal.returns-in_err-bracketed-clause-form
unfolding next may_end ◌⨾◌ ◌or◌ arg args brackets call_of
returns-in_err-bracketed-clause-form c = λ k r.
    let p = err_from_is_err_and c.from_residual-in_err-bracketed.result c.from_residual-in_err-bracketed.ensures.1 in
    rw (p.1, p.2) (stopped_along _ _ _ (c.in_ok-named.ensures.form (bracketing k) refl) (c.in_err-bracketed.ensures.form (listing k) (lists k)))

pub returns-in_err-listed-clause-form : goal.returns-in_err-listed-clause-form
unfolding next may_end ◌⨾◌ ◌or◌ arg args brackets call_of
returns-in_err-listed-clause-form c = λ k r.
    let p = err_from_is_err_and c.from_residual-in_err-listed.result c.from_residual-in_err-listed.ensures.1 in
    rw (p.1, p.2) (stopped_along _ _ _ (c.in_ok-named.ensures.form (bracketing k) refl ∙ c.in_ok-bracketed.ensures.form (listing k) (lists k)) (c.in_err-listed.ensures.form (closing k) (closes k)))

pub returns-in_err-end-clause-form : goal.returns-in_err-end-clause-form
unfolding next may_end ◌⨾◌ ◌or◌ arg args brackets call_of
returns-in_err-end-clause-form c = λ k r.
    let p = err_from_is_err_and c.from_residual-in_err-end.result c.from_residual-in_err-end.ensures.1 in
    rw (p.1, p.2) (stopped_along _ _ _ (c.in_ok-named.ensures.form (bracketing k) refl ∙ c.in_ok-bracketed.ensures.form (listing k) (lists k) ∙ c.in_ok-listed.ensures.form (closing k) (closes k)) (c.in_err-end.ensures.form k r))

pub returns-clause-form : goal.returns-clause-form
unfolding next may_end ◌⨾◌ ◌or◌ arg args brackets call_of
returns-clause-form c = λ k r. c.in_ok-named.ensures.form (bracketing k) refl ∙ c.in_ok-bracketed.ensures.form (listing k) (lists k) ∙ c.in_ok-listed.ensures.form (closing k) (closes k) ∙ c.in_ok-end.ensures.form k r

pub returns-clause-spelled : goal.returns-clause-spelled
returns-clause-spelled c =
    let found = c.args.found.now in
    (spells_more (given c.args.callee c.args.at ∷ []) ((brackets_text c.in_ok-bracketed.bracketed) ++ ((args_text c.in_ok-listed.listed) ++ (fixed Semicolon ∷ []))) found c.args.at c.in_ok-named.named c.in_ok-end.end ((c.in_ok-named.ensures.spelled.0, refl), c.in_ok-named.ensures.spelled.1) (spells_more (brackets_text c.in_ok-bracketed.bracketed) ((args_text c.in_ok-listed.listed) ++ (fixed Semicolon ∷ [])) found c.in_ok-named.named c.in_ok-bracketed.opened c.in_ok-end.end c.in_ok-bracketed.ensures.spelled (spells_more (args_text c.in_ok-listed.listed) (fixed Semicolon ∷ []) found c.in_ok-bracketed.opened c.in_ok-listed.closed c.in_ok-end.end c.in_ok-listed.ensures.spelled c.in_ok-end.ensures.spelled)))
