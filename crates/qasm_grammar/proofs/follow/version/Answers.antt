use Rattle.std.proofs.Common.{◌∙◌, sym, refl}
use Rattle.qasm_grammar.specs.declared.follow.Refusal.TheVariants.{Version}
use Rattle.qasm_grammar.specs.declared.terminal.Terminal.TheVariants.{Openqasm, Two, Semicolon}
use Rattle.qasm_grammar.specs.Forms.{Form, must, both, ◌⨾◌}
use Rattle.qasm_grammar.specs.Grammar.{version}
use Rattle.qasm_grammar.proofs.Steps.{must_stops, at_must_goes}
use Rattle.qasm_grammar.proofs.follow.version.Goals as goal

abbrev ending : Form → Form
ending k = both (must Version Semicolon) k

abbrev numbered : Form → Form
numbered k = both (must Version Two) (ending k)

pub returns-then-not-is_next-clause-form : goal.returns-then-not-is_next-clause-form
unfolding ◌⨾◌ version
returns-then-not-is_next-clause-form c = λ k r. must_stops Version Openqasm (numbered k) _ _ (sym c.if-not-is_next.ensures)

pub returns-then-not-is_next-2-clause-form : goal.returns-then-not-is_next-2-clause-form
unfolding ◌⨾◌ version
returns-then-not-is_next-2-clause-form c = λ k r.
    at_must_goes c.args.found.now 0 Version Openqasm (numbered k) refl (sym c.if-not-is_next.ensures)
    ∙ must_stops Version Two (ending k) _ _ (sym c.if-not-is_next-2.ensures)

pub returns-then-not-is_next-3-clause-form : goal.returns-then-not-is_next-3-clause-form
unfolding ◌⨾◌ version
returns-then-not-is_next-3-clause-form c = λ k r.
    at_must_goes c.args.found.now 0 Version Openqasm (numbered k) refl (sym c.if-not-is_next.ensures)
    ∙ at_must_goes c.args.found.now 1 Version Two (ending k) refl (sym c.if-not-is_next-2.ensures)
    ∙ must_stops Version Semicolon k _ _ (sym c.if-not-is_next-3.ensures)

pub returns-clause-form : goal.returns-clause-form
unfolding ◌⨾◌ version
returns-clause-form c = λ k r.
    at_must_goes c.args.found.now 0 Version Openqasm (numbered k) refl (sym c.if-not-is_next.ensures)
    ∙ at_must_goes c.args.found.now 1 Version Two (ending k) refl (sym c.if-not-is_next-2.ensures)
    ∙ at_must_goes c.args.found.now 2 Version Semicolon k r (sym c.if-not-is_next-3.ensures)
