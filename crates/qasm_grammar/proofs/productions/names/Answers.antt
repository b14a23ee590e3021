use Rattle.std.proofs.Common.{◌∙◌, ◌+◌, ◌∷◌, [], sym, refl, arith}
use Rattle.std.proofs.lemmas.Result.{err_from_is_err_and}
use Rattle.qasm_grammar.specs.declared.terminal.Terminal.TheVariants.{Name, Comma}
use Rattle.qasm_grammar.specs.Forms.{Form, one, both, many, ◌⨾◌}
use Rattle.qasm_grammar.specs.Grammar.{names}
use Rattle.qasm_grammar.specs.Spelling.{given}
use Rattle.qasm_grammar.proofs.Steps.{stopped_along}
use Rattle.std.proofs.lemmas.Grind.{common_steps}
use Rattle.qasm_grammar.proofs.Steps.{many_skips, at_many_goes}
use Rattle.qasm_grammar.proofs.Spelled.{listed_one, listed_push, next_stands}
use Rattle.qasm_grammar.specs.Spelling.{Piece}
use Rattle.std.proofs.Common.{ℕ, List}
use Rattle.qasm_grammar.proofs.productions.names.Goals as goal

abbrev again : Form → Form
again k = both (many (both (one Comma) (one Name))) k

abbrev name_text : ℕ → List Piece
name_text n = given Name n ∷ []

pub returns-in_err-end-clause-form : goal.returns-in_err-end-clause-form
unfolding names ◌⨾◌
returns-in_err-end-clause-form c = λ k h.
    let p = err_from_is_err_and c.from_residual.result c.from_residual.ensures.1 in
    rw (p.1, p.2) (c.in_err-end.ensures.form (again k) refl)

pub loop-read-init : goal.loop-read-init
unfolding names ◌⨾◌
loop-read-init c =
    let pushed = c.in_ok-push.ensures.ok in
    let front = c.in_ok-end.ensures.spelled in
    record {
      within = omega (arith, c.in_ok-end.ensures.within);
      inside = omega (arith, c.in_ok-end.ensures.within);
      some = rw (pushed, c.new-read.ensures) (omega arith);
      form = λ k h. c.in_ok-end.ensures.form (again k) refl;
      spelled = rw (pushed, c.new-read.ensures) (listed_one name_text c.args.at c.args.found.now c.args.at c.in_ok-end.end ((front.0, refl), front.1));
    }

pub returns-in_err-after-clause-form : goal.returns-in_err-after-clause-form
unfolding ◌⨾◌
returns-in_err-after-clause-form c = λ k h.
    let p = err_from_is_err_and c.from_residual-in_err-after.result c.from_residual-in_err-after.ensures.1 in
    rw (p.1, p.2) (stopped_along _ _ _
    (c.loop-read.invariant.form k h ∙ at_many_goes c.args.found.now c.loop-read.end Comma (one Name) k refl refl h.lives h.apart.0 (sym c.loop-read-test.ensures))
    (c.in_err-after.ensures.form (again k) refl))

pub loop-read-preserved : goal.loop-read-preserved
unfolding ◌⨾◌
loop-read-preserved c =
    let found = c.args.found.now in
    let pushed = c.in_ok-push-2.ensures.ok in
    let front = c.in_ok-after.ensures.spelled in
    record {
      within = omega (arith, c.in_ok-after.ensures.within);
      inside = omega (arith, c.in_ok-after.ensures.within);
      some = rw pushed (grind (arith, common_steps));
      form = λ k h.
          c.loop-read.invariant.form k h
          ∙ at_many_goes found c.loop-read.end Comma (one Name) k refl refl h.lives h.apart.0 (sym c.loop-read-test.ensures)
          ∙ c.in_ok-after.ensures.form (again k) refl;
      spelled = rw pushed (listed_push name_text _ (c.loop-read.end + 1) found c.args.at c.loop-read.end c.in_ok-after.after c.loop-read.invariant.some c.loop-read.invariant.spelled (next_stands found c.loop-read.end Comma (sym c.loop-read-test.ensures)) ((front.0, refl), front.1));
    }

pub returns-clause-form : goal.returns-clause-form
returns-clause-form c = λ k h. c.loop-read.invariant.form k h ∙ many_skips Comma (one Name) k _ _ h.waits (sym c.loop-read-test.ensures)
