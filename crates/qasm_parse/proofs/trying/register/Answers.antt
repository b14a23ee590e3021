use Rattle.std.proofs.Common.{◌≡◌, ℕ, Bool, false, ◌&&◌, ◌||◌, [], Option, None, Some, is_some, refl, sym, ap, ◌∙◌}
use Rattle.qasm_lex.specs.declared.fault.FaultKind.TheVariants.{Declared, Sizes}
use Rattle.qasm_parse.specs.Lexed.{number_at, word_at}
use Rattle.qasm_parse.specs.Gates.{is_barred}
use Rattle.qasm_parse.specs.Known.{is_declared, place_of}
use Rattle.qasm_parse.proofs.First.{first_none}
use Rattle.qasm_parse.proofs.Broken.{rule_is, rule_not, equals, unequal}
use Rattle.qasm_parse.proofs.trying.register.Goals as goal

without : (o : Option ℕ) (b : Bool) → (is_some o || b) ≡ false → o ≡ None
without None b e = refl
without (Some n) b e = cc

pub returns-then-is_declared-clause-value : goal.returns-then-is_declared-clause-value
returns-then-is_declared-clause-value c = rule_is Declared _ c.args.name _ (ap (is_declared c.args.known.now) (sym c.word.ensures) ∙ sym c.if-is_declared.ensures)

pub returns-then-members-eq0-clause-value : goal.returns-then-members-eq0-clause-value
returns-then-members-eq0-clause-value c =
    rule_not Declared _ c.args.name _ (ap (is_declared c.args.known.now) (sym c.word.ensures) ∙ sym c.if-is_declared.ensures)
    ∙ rule_is Sizes _ c.args.at [] (equals (number_at c.args.source.now c.args.size) 0 (sym c.number-members.ensures ∙ c.if-members-eq0.true))

pub returns-clause-value : goal.returns-clause-value
returns-clause-value c = (
  rule_not Declared _ c.args.name _ (ap (is_declared c.args.known.now) (sym c.word.ensures) ∙ sym c.if-is_declared.ensures)
      ∙ rule_not Sizes _ c.args.at [] (unequal (number_at c.args.source.now c.args.size) 0 (λ e. c.if-members-eq0.false (c.number-members.ensures ∙ e)))
      ∙ first_none,
  c.number-members.ensures,
)

pub returns-clause-new : goal.returns-clause-new
returns-clause-new c =
    let k = c.args.known.now in
    let word = word_at c.args.source.now c.args.name in
    without (place_of k.names word) (k.included && is_barred word) (ap (is_declared k) (sym c.word.ensures) ∙ sym c.if-is_declared.ensures)
