use Rattle.std.proofs.Common.{◌∙◌, ◌+◌, ◌++◌, ◌∷◌, [], refl}
use Rattle.std.proofs.lemmas.Result.{err_from_is_err_and}
use Rattle.qasm_grammar.specs.declared.terminal.Terminal.TheVariants.{Gate, Name, Comma, Open, OpenBrace, CloseBrace}
use Rattle.qasm_grammar.specs.Forms.{Form, one, both, ◌⨾◌, ◌or◌, next, may_end}
use Rattle.qasm_grammar.specs.inside.Forms.{Follows}
use Rattle.qasm_grammar.specs.Grammar.{names, brackets, bodies, gate}
use Rattle.qasm_grammar.specs.Spelling.{fixed, given, names_text, brackets_text, bodies_text}
use Rattle.qasm_grammar.proofs.Steps.{stopped_along}
use Rattle.qasm_grammar.proofs.Spelled.{spells_more}
use Rattle.qasm_grammar.proofs.productions.gate.Goals as goal

abbrev inside : Form → Form
inside k = bodies ⨾ k

abbrev bracing : Form → Form
bracing k = both (one OpenBrace) (inside k)

abbrev listing : Form → Form
listing k = names ⨾ bracing k

abbrev bracketing : Form → Form
bracketing k = brackets ⨾ listing k

braces : (k : Form) → Follows (bracing k) (Comma ∷ [])
unfolding next may_end ◌⨾◌ ◌or◌ names brackets bodies gate
braces k = record { lives = refl; waits = refl; apart = (refl, tt) }

lists : (k : Form) → Follows (listing k) (Open ∷ [])
unfolding next may_end ◌⨾◌ ◌or◌ names brackets bodies gate
lists k = record { lives = refl; waits = refl; apart = (refl, tt) }

pub returns-in_err-named-clause-form : goal.returns-in_err-named-clause-form
unfolding next may_end ◌⨾◌ ◌or◌ names brackets bodies gate
returns-in_err-named-clause-form c = λ k r.
    let p = err_from_is_err_and c.from_residual.result c.from_residual.ensures.1 in
    rw (p.1, p.2) (c.in_err-named.ensures.form (bracketing k) refl)

pub returns-in_err-bracketed-clause-form : goal.returns-in_err-bracketed-clause-form
unfolding next may_end ◌⨾◌ ◌or◌ names brackets bodies gate
returns-in_err-bracketed-clause-form c = λ k r.
    let p = err_from_is_err_and c.from_residual-in_err-bracketed.result c.from_residual-in_err-bracketed.ensures.1 in
    rw (p.1, p.2) (stopped_along _ _ _ (c.in_ok-named.ensures.form (bracketing k) refl) (c.in_err-bracketed.ensures.form (listing k) (lists k)))

pub returns-in_err-formals-clause-form : goal.returns-in_err-formals-clause-form
unfolding next may_end ◌⨾◌ ◌or◌ names brackets bodies gate
returns-in_err-formals-clause-form c = λ k r.
    let p = err_from_is_err_and c.from_residual-in_err-formals.result c.from_residual-in_err-formals.ensures.1 in
    rw (p.1, p.2) (stopped_along _ _ _ (c.in_ok-named.ensures.form (bracketing k) refl ∙ c.in_ok-bracketed.ensures.form (listing k) (lists k)) (c.in_err-formals.ensures.form (bracing k) (braces k)))

pub returns-in_err-braced-clause-form : goal.returns-in_err-braced-clause-form
unfolding next may_end ◌⨾◌ ◌or◌ names brackets bodies gate
returns-in_err-braced-clause-form c = λ k r.
    let p = err_from_is_err_and c.from_residual-in_err-braced.result c.from_residual-in_err-braced.ensures.1 in
    rw (p.1, p.2) (stopped_along _ _ _ (c.in_ok-named.ensures.form (bracketing k) refl ∙ c.in_ok-bracketed.ensures.form (listing k) (lists k) ∙ c.in_ok-formals.ensures.form (bracing k) (braces k)) (c.in_err-braced.ensures.form (inside k) refl))

pub returns-in_err-body-clause-form : goal.returns-in_err-body-clause-form
unfolding next may_end ◌⨾◌ ◌or◌ names brackets bodies gate
returns-in_err-body-clause-form c = λ k r.
    let p = err_from_is_err_and c.from_residual-in_err-body.result c.from_residual-in_err-body.ensures.1 in
    rw (p.1, p.2) (stopped_along _ _ _ (c.in_ok-named.ensures.form (bracketing k) refl ∙ c.in_ok-bracketed.ensures.form (listing k) (lists k) ∙ c.in_ok-formals.ensures.form (bracing k) (braces k) ∙ c.in_ok-braced.ensures.form (inside k) refl) (c.in_err-body.ensures.form k r))

pub returns-clause-form : goal.returns-clause-form
unfolding next may_end ◌⨾◌ ◌or◌ names brackets bodies gate
returns-clause-form c = λ k r. c.in_ok-named.ensures.form (bracketing k) refl ∙ c.in_ok-bracketed.ensures.form (listing k) (lists k) ∙ c.in_ok-formals.ensures.form (bracing k) (braces k) ∙ c.in_ok-braced.ensures.form (inside k) refl ∙ c.in_ok-body.ensures.form k r

pub returns-clause-spelled : goal.returns-clause-spelled
returns-clause-spelled c =
    let found = c.args.found.now in
    (spells_more (fixed Gate ∷ given Name (c.args.at + 1) ∷ []) ((brackets_text c.in_ok-bracketed.bracketed) ++ ((names_text c.in_ok-formals.formals) ++ ((fixed OpenBrace ∷ []) ++ (bodies_text c.in_ok-body.body ++ (fixed CloseBrace ∷ []))))) found c.args.at c.in_ok-named.named c.in_ok-body.end (c.in_ok-named.ensures.spelled.0, ((c.in_ok-named.ensures.spelled.1.0, refl), c.in_ok-named.ensures.spelled.1.1)) (spells_more (brackets_text c.in_ok-bracketed.bracketed) ((names_text c.in_ok-formals.formals) ++ ((fixed OpenBrace ∷ []) ++ (bodies_text c.in_ok-body.body ++ (fixed CloseBrace ∷ [])))) found c.in_ok-named.named c.in_ok-bracketed.opened c.in_ok-body.end c.in_ok-bracketed.ensures.spelled (spells_more (names_text c.in_ok-formals.formals) ((fixed OpenBrace ∷ []) ++ (bodies_text c.in_ok-body.body ++ (fixed CloseBrace ∷ []))) found c.in_ok-bracketed.opened c.in_ok-formals.listed c.in_ok-body.end c.in_ok-formals.ensures.spelled (spells_more (fixed OpenBrace ∷ []) (bodies_text c.in_ok-body.body ++ (fixed CloseBrace ∷ [])) found c.in_ok-formals.listed c.in_ok-braced.braced c.in_ok-body.end c.in_ok-braced.ensures.spelled c.in_ok-body.ensures.spelled))))
