use Rattle.std.proofs.Common.{◌∙◌, ◌+◌, ◌∷◌, [], sym, refl, arith}
use Rattle.std.proofs.lemmas.Result.{err_from_is_err_and}
use Rattle.qasm_grammar.specs.declared.terminal.Terminal.TheVariants.{CloseBrace}
use Rattle.qasm_grammar.specs.Forms.{Form, one, both, many, ◌⨾◌}
use Rattle.qasm_grammar.specs.Grammar.{body, bodies}
use Rattle.qasm_grammar.specs.Spelling.{fixed, bodies_text}
use Rattle.qasm_grammar.proofs.Steps.{stopped_along}
use Rattle.qasm_grammar.proofs.Starts.{bodies_go, bodies_end}
use Rattle.qasm_grammar.proofs.Steps.{at_one_goes}
use Rattle.qasm_grammar.proofs.Spelled.{spells_more, flat_push, next_stands}
use Rattle.qasm_grammar.specs.Spelling.{body_text}
use Rattle.qasm_grammar.proofs.productions.bodies.Goals as goal

abbrev again : Form → Form
again k = both (many body) (both (one CloseBrace) k)

pub body-init : goal.body-init
unfolding bodies ◌⨾◌
body-init c = record {
  within = omega arith;
  inside = omega arith;
  form = λ k r. refl;
  spelled = rw c.new-read.ensures refl;
}

pub returns-in_err-next-clause-form : goal.returns-in_err-next-clause-form
returns-in_err-next-clause-form c = λ k r.
    let p = err_from_is_err_and c.from_residual.result c.from_residual.ensures.1 in
    rw (p.1, p.2) (stopped_along _ _ _ (c.body.invariant.form k r ∙ bodies_go k _ _ (sym c.body-test.ensures)) (c.in_err-next.ensures.form (again k) refl))

pub body-preserved : goal.body-preserved
body-preserved c =
    let pushed = c.in_ok-push.ensures.ok in
    record {
      within = omega (arith, c.in_ok-next.ensures.within);
      inside = omega (arith, c.in_ok-next.ensures.within);
      form = λ k r. c.body.invariant.form k r ∙ bodies_go k _ _ (sym c.body-test.ensures) ∙ c.in_ok-next.ensures.form (again k) refl;
      spelled = rw pushed (flat_push body_text _ c.in_ok-next.next c.args.found.now c.args.at c.body.end c.in_ok-next.after c.body.invariant.spelled c.in_ok-next.ensures.spelled);
    }

pub returns-clause-form : goal.returns-clause-form
returns-clause-form c = λ k r.
    c.body.invariant.form k r
    ∙ bodies_end k _ _ (sym c.body-test.ensures)
    ∙ at_one_goes c.args.found.now c.body.end CloseBrace k r (sym c.body-test.ensures)

pub returns-clause-spelled : goal.returns-clause-spelled
returns-clause-spelled c =
    spells_more (bodies_text c.body.read) (fixed CloseBrace ∷ []) c.args.found.now c.args.at c.body.end (c.body.end + 1) c.body.invariant.spelled
    (next_stands c.args.found.now c.body.end CloseBrace (sym c.body-test.ensures), refl)
