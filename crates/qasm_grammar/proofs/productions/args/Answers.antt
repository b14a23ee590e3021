use Rattle.std.proofs.Common.{◌∙◌, ◌∷◌, [], sym, refl, arith}
use Rattle.std.proofs.lemmas.Result.{err_from_is_err_and}
use Rattle.std.proofs.lemmas.Grind.{common_steps}
use Rattle.qasm_grammar.specs.declared.terminal.Terminal.TheVariants.{OpenBracket, Comma}
use Rattle.qasm_grammar.specs.Forms.{Form, one, both, many, ◌⨾◌}
use Rattle.qasm_grammar.specs.inside.Forms.{Follows}
use Rattle.qasm_grammar.specs.Grammar.{arg, args}
use Rattle.qasm_grammar.specs.Spelling.{arg_text}
use Rattle.qasm_grammar.proofs.Steps.{many_skips, many_follows, at_many_goes, stopped_along}
use Rattle.qasm_grammar.proofs.Spelled.{listed_one, listed_push, next_stands}
use Rattle.qasm_grammar.proofs.productions.args.Goals as goal

abbrev again : Form → Form
again k = both (many (both (one Comma) arg)) k

follows : (k : Form) → Follows k (OpenBracket ∷ Comma ∷ []) → Follows (again k) (OpenBracket ∷ [])
follows k h = record { lives = refl; waits = refl; apart = (many_follows Comma OpenBracket arg k refl h.apart.0, tt) }

pub returns-in_err-first-clause-form : goal.returns-in_err-first-clause-form
unfolding arg args ◌⨾◌
returns-in_err-first-clause-form c = λ k h.
    let p = err_from_is_err_and c.from_residual.result c.from_residual.ensures.1 in
    rw (p.1, p.2) (c.in_err-first.ensures.form (again k) (follows k h))

pub loop-read-init : goal.loop-read-init
unfolding arg args ◌⨾◌
loop-read-init c =
    let pushed = c.in_ok-push.ensures.ok in
    record {
      within = omega (arith, c.in_ok-first.ensures.within);
      inside = omega (arith, c.in_ok-first.ensures.within);
      some = rw (pushed, c.new-read.ensures) (omega arith);
      form = λ k h. c.in_ok-first.ensures.form (again k) (follows k h);
      spelled = rw (pushed, c.new-read.ensures) (listed_one arg_text c.in_ok-first.first c.args.found.now c.args.at c.in_ok-first.end c.in_ok-first.ensures.spelled);
    }

pub returns-in_err-next-clause-form : goal.returns-in_err-next-clause-form
unfolding arg ◌⨾◌
returns-in_err-next-clause-form c = λ k h.
    let p = err_from_is_err_and c.from_residual-in_err-next.result c.from_residual-in_err-next.ensures.1 in
    rw (p.1, p.2) (stopped_along _ _ _
    (c.loop-read.invariant.form k h ∙ at_many_goes c.args.found.now c.loop-read.end Comma arg k refl refl h.lives h.apart.1.0 (sym c.loop-read-test.ensures))
    (c.in_err-next.ensures.form (again k) (follows k h)))

pub loop-read-preserved : goal.loop-read-preserved
unfolding arg ◌⨾◌
loop-read-preserved c =
    let found = c.args.found.now in
    let pushed = c.in_ok-push-2.ensures.ok in
    record {
      within = omega (arith, c.in_ok-next.ensures.within);
      inside = omega (arith, c.in_ok-next.ensures.within);
      some = rw pushed (grind (arith, common_steps));
      form = λ k h.
          c.loop-read.invariant.form k h
          ∙ at_many_goes found c.loop-read.end Comma arg k refl refl h.lives h.apart.1.0 (sym c.loop-read-test.ensures)
          ∙ c.in_ok-next.ensures.form (again k) (follows k h);
      spelled = rw pushed (listed_push arg_text _ c.in_ok-next.next found c.args.at c.loop-read.end c.in_ok-next.after c.loop-read.invariant.some c.loop-read.invariant.spelled (next_stands found c.loop-read.end Comma (sym c.loop-read-test.ensures)) c.in_ok-next.ensures.spelled);
    }

pub returns-clause-form : goal.returns-clause-form
returns-clause-form c = λ k h. c.loop-read.invariant.form k h ∙ many_skips Comma arg k _ _ h.waits (sym c.loop-read-test.ensures)
