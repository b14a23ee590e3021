use Rattle.std.proofs.Common.{◌≡◌, ◌∙◌, ◌+◌, ℕ, List, drop, sym, ap, refl, arith}
use Rattle.qasm_grammar.specs.declared.follow.Refusal.TheVariants.{Parameters}
use Rattle.qasm_grammar.specs.declared.terminal.Terminal.{Terminal}
use Rattle.qasm_grammar.specs.declared.terminal.Terminal.TheVariants.{Open, Close}
use Rattle.qasm_grammar.specs.Forms.{Form, must, ◌⨾◌, reads}
use Rattle.qasm_grammar.specs.Grammar.{brackets}
use Rattle.qasm_grammar.proofs.Steps.{opt_skips, at_opt_goes, at_must_goes, must_stops}
use Rattle.qasm_grammar.proofs.Spelled.{next_stands}
use Rattle.qasm_grammar.proofs.productions.brackets.Goals as goal

two_more : (found : List Terminal) (at : ℕ) (k : Form) → reads k (drop (at + 1 + 1) found) (at + 1 + 1) ≡ reads k (drop (at + 2) found) (at + 2)
two_more found at k = ap (λ (n : ℕ). reads k (drop n found) n) {x = at + 1 + 1} {y = at + 2} (omega arith)

pub returns-then-not-is_next-clause-form : goal.returns-then-not-is_next-clause-form
unfolding brackets ◌⨾◌
returns-then-not-is_next-clause-form c = λ k h. opt_skips Open (must Parameters Close) k _ _ h.waits (sym c.if-not-is_next.ensures)

pub returns-then-not-is_next-2-clause-form : goal.returns-then-not-is_next-2-clause-form
unfolding brackets ◌⨾◌
returns-then-not-is_next-2-clause-form c = λ k h.
    at_opt_goes c.args.found.now c.args.at Open (must Parameters Close) k refl refl h.lives h.apart.0 (sym c.if-not-is_next.ensures)
    ∙ must_stops Parameters Close k _ _ (sym c.if-not-is_next-2.ensures)

pub returns-clause-form : goal.returns-clause-form
unfolding brackets ◌⨾◌
returns-clause-form c = λ k h.
    at_opt_goes c.args.found.now c.args.at Open (must Parameters Close) k refl refl h.lives h.apart.0 (sym c.if-not-is_next.ensures)
    ∙ at_must_goes c.args.found.now (c.args.at + 1) Parameters Close k h.lives (sym c.if-not-is_next-2.ensures)
    ∙ two_more c.args.found.now c.args.at k

pub returns-clause-spelled : goal.returns-clause-spelled
returns-clause-spelled c = (
  next_stands c.args.found.now c.args.at Open (sym c.if-not-is_next.ensures),
  (next_stands c.args.found.now (c.args.at + 1) Close (sym c.if-not-is_next-2.ensures), omega arith),
)
