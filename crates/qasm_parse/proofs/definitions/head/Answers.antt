use Rattle.std.proofs.Common.{◌≡◌, ℕ, false, length, map, [], sym, ap, ◌∙◌}
use Rattle.std.specs.Prelude.{nat_le, nat_lt, ◌||◌}
use Rattle.std.proofs.lemmas.Result.{err_from_is_err_and}
use Rattle.qasm_lex.specs.declared.fault.FaultKind.TheVariants.{Declared, TooMany}
use Rattle.qasm_parse.specs.Lexed.{word_at}
use Rattle.qasm_parse.specs.Known.{is_declared}
use Rattle.qasm_parse.specs.Faults.{repeated, head_faults}
use Rattle.qasm_parse.proofs.First.{first_none}
use Rattle.qasm_parse.proofs.Broken.{rule_is, rule_not, first_this, first_past, meets_front, meets_same}
use Rattle.qasm_parse.proofs.definitions.head.Goals as goal

pub returns-then-is_declared-clause-value : goal.returns-then-is_declared-clause-value
returns-then-is_declared-clause-value c =
    rule_is Declared _ c.args.name _ (ap (is_declared c.args.known.now) (sym c.word.ensures) ∙ sym c.if-is_declared.ensures)

pub returns-in_err-names-clause-value : goal.returns-in_err-names-clause-value
returns-in_err-names-clause-value c =
    let p = err_from_is_err_and c.from_residual.result c.from_residual.ensures.1 in
    let e : is_declared c.args.known.now (word_at c.args.source.now c.args.name) ≡ false = ap (is_declared c.args.known.now) (sym c.word.ensures) ∙ sym c.if-is_declared.ensures in
    rw (p.1, p.2)
    (meets_same c.in_err-names.field-0.0 _ (head_faults c.args.source.now c.args.known.now c.args.at c.args.name c.args.formals.now) (map (word_at c.args.source.now) c.args.formals.now) _
    (rule_not Declared _ c.args.name _ e)
    (meets_front c.in_err-names.field-0.0 (repeated c.args.source.now [] c.args.formals.now) _ (map (word_at c.args.source.now) c.args.formals.now) _ c.in_err-names.ensures))

pub returns-then-too_many-clause-value : goal.returns-then-too_many-clause-value
returns-then-too_many-clause-value c =
    let e : is_declared c.args.known.now (word_at c.args.source.now c.args.name) ≡ false = ap (is_declared c.args.known.now) (sym c.word.ensures) ∙ sym c.if-is_declared.ensures in
    rule_not Declared _ c.args.name _ e
    ∙ first_this _ TooMany _ c.args.at [] c.in_ok-names.ensures.0 (ap (λ (n : ℕ). nat_le 1024 n || nat_lt 64 (length c.args.formals.now)) (sym (ap length c.as_slice.ensures)) ∙ sym c.if-too_many.ensures)

pub returns-clause-value : goal.returns-clause-value
returns-clause-value c =
    let e : is_declared c.args.known.now (word_at c.args.source.now c.args.name) ≡ false = ap (is_declared c.args.known.now) (sym c.word.ensures) ∙ sym c.if-is_declared.ensures in (
      rule_not Declared _ c.args.name _ e
          ∙ first_past _ TooMany _ c.args.at [] c.in_ok-names.ensures.0 (ap (λ (n : ℕ). nat_le 1024 n || nat_lt 64 (length c.args.formals.now)) (sym (ap length c.as_slice.ensures)) ∙ sym c.if-too_many.ensures) ∙ first_none,
      c.in_ok-names.ensures.1,
    )
