use Rattle.std.proofs.Common.{◌∙◌, ◌++◌, ◌∷◌, [], refl}
use Rattle.std.proofs.lemmas.Result.{err_from_is_err_and}
use Rattle.qasm_grammar.specs.declared.terminal.Terminal.TheVariants.{Measure, Semicolon, OpenBracket, Arrow}
use Rattle.qasm_grammar.specs.Forms.{Form, one, both, ◌⨾◌, ◌or◌, next, may_end}
use Rattle.qasm_grammar.specs.inside.Forms.{Follows}
use Rattle.qasm_grammar.specs.Grammar.{arg, args, brackets, measure}
use Rattle.qasm_grammar.specs.Spelling.{fixed, arg_text}
use Rattle.qasm_grammar.proofs.Steps.{stopped_along}
use Rattle.qasm_grammar.proofs.Spelled.{spells_more}
use Rattle.qasm_grammar.proofs.productions.measure.Goals as goal

abbrev closing : Form → Form
closing k = both (one Semicolon) k

abbrev target : Form → Form
target k = arg ⨾ closing k

abbrev pointing : Form → Form
pointing k = both (one Arrow) (target k)

abbrev source : Form → Form
source k = arg ⨾ pointing k

closes : (k : Form) → Follows (closing k) (OpenBracket ∷ [])
unfolding next may_end ◌⨾◌ ◌or◌ arg args brackets measure
closes k = record { lives = refl; waits = refl; apart = (refl, tt) }

points : (k : Form) → Follows (pointing k) (OpenBracket ∷ [])
unfolding next may_end ◌⨾◌ ◌or◌ arg args brackets measure
points k = record { lives = refl; waits = refl; apart = (refl, tt) }

pub returns-in_err-named-clause-form : goal.returns-in_err-named-clause-form
unfolding next may_end ◌⨾◌ ◌or◌ arg args brackets measure
returns-in_err-named-clause-form c = λ k r.
    let p = err_from_is_err_and c.from_residual.result c.from_residual.ensures.1 in
    rw (p.1, p.2) (c.in_err-named.ensures.form (source k) refl)

pub returns-in_err-from-clause-form : goal.returns-in_err-from-clause-form
unfolding next may_end ◌⨾◌ ◌or◌ arg args brackets measure
returns-in_err-from-clause-form c = λ k r.
    let p = err_from_is_err_and c.from_residual-in_err-from.result c.from_residual-in_err-from.ensures.1 in
    rw (p.1, p.2) (stopped_along _ _ _ (c.in_ok-named.ensures.form (source k) refl) (c.in_err-from.ensures.form (pointing k) (points k)))

pub returns-in_err-pointed-clause-form : goal.returns-in_err-pointed-clause-form
unfolding next may_end ◌⨾◌ ◌or◌ arg args brackets measure
returns-in_err-pointed-clause-form c = λ k r.
    let p = err_from_is_err_and c.from_residual-in_err-pointed.result c.from_residual-in_err-pointed.ensures.1 in
    rw (p.1, p.2) (stopped_along _ _ _ (c.in_ok-named.ensures.form (source k) refl ∙ c.in_ok-from.ensures.form (pointing k) (points k)) (c.in_err-pointed.ensures.form (target k) refl))

pub returns-in_err-to-clause-form : goal.returns-in_err-to-clause-form
unfolding next may_end ◌⨾◌ ◌or◌ arg args brackets measure
returns-in_err-to-clause-form c = λ k r.
    let p = err_from_is_err_and c.from_residual-in_err-to.result c.from_residual-in_err-to.ensures.1 in
    rw (p.1, p.2) (stopped_along _ _ _ (c.in_ok-named.ensures.form (source k) refl ∙ c.in_ok-from.ensures.form (pointing k) (points k) ∙ c.in_ok-pointed.ensures.form (target k) refl) (c.in_err-to.ensures.form (closing k) (closes k)))

pub returns-in_err-end-clause-form : goal.returns-in_err-end-clause-form
unfolding next may_end ◌⨾◌ ◌or◌ arg args brackets measure
returns-in_err-end-clause-form c = λ k r.
    let p = err_from_is_err_and c.from_residual-in_err-end.result c.from_residual-in_err-end.ensures.1 in
    rw (p.1, p.2) (stopped_along _ _ _ (c.in_ok-named.ensures.form (source k) refl ∙ c.in_ok-from.ensures.form (pointing k) (points k) ∙ c.in_ok-pointed.ensures.form (target k) refl ∙ c.in_ok-to.ensures.form (closing k) (closes k)) (c.in_err-end.ensures.form k r))

pub returns-clause-form : goal.returns-clause-form
unfolding next may_end ◌⨾◌ ◌or◌ arg args brackets measure
returns-clause-form c = λ k r. c.in_ok-named.ensures.form (source k) refl ∙ c.in_ok-from.ensures.form (pointing k) (points k) ∙ c.in_ok-pointed.ensures.form (target k) refl ∙ c.in_ok-to.ensures.form (closing k) (closes k) ∙ c.in_ok-end.ensures.form k r

pub returns-clause-spelled : goal.returns-clause-spelled
returns-clause-spelled c =
    let found = c.args.found.now in
    (spells_more (fixed Measure ∷ []) ((arg_text c.in_ok-from.from) ++ ((fixed Arrow ∷ []) ++ ((arg_text c.in_ok-to.to) ++ (fixed Semicolon ∷ [])))) found c.args.at c.in_ok-named.named c.in_ok-end.end c.in_ok-named.ensures.spelled (spells_more (arg_text c.in_ok-from.from) ((fixed Arrow ∷ []) ++ ((arg_text c.in_ok-to.to) ++ (fixed Semicolon ∷ []))) found c.in_ok-named.named c.in_ok-from.read c.in_ok-end.end c.in_ok-from.ensures.spelled (spells_more (fixed Arrow ∷ []) ((arg_text c.in_ok-to.to) ++ (fixed Semicolon ∷ [])) found c.in_ok-from.read c.in_ok-pointed.pointed c.in_ok-end.end c.in_ok-pointed.ensures.spelled (spells_more (arg_text c.in_ok-to.to) (fixed Semicolon ∷ []) found c.in_ok-pointed.pointed c.in_ok-to.closed c.in_ok-end.end c.in_ok-to.ensures.spelled c.in_ok-end.ensures.spelled))))
