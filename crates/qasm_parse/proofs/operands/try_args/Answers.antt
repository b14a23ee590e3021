use Rattle.std.proofs.Common.{◌≡◌, ℕ, true, false, [], length, sym, ap, ◌∙◌}
use Rattle.std.specs.List.{list_all}
use Rattle.std.proofs.lemmas.Result.{err_from_is_err_and}
use Rattle.qasm_lex.specs.declared.fault.FaultKind.TheVariants.{Arity, Sizes, SameQubit}
use Rattle.qasm_parse.specs.Known.{quantum_named}
use Rattle.qasm_parse.specs.Faults.{argument_faults, all_meant, are_equal, meets_itself, meets, any_pair, has_size}
use Rattle.qasm_parse.proofs.First.{first_none}
use Rattle.qasm_parse.proofs.Broken.{first_this, first_past, rule_is, rule_not, differs, agrees, negated, affirmed, meets_front}
use Rattle.qasm_parse.proofs.operands.try_args.Goals as goal

pub returns-in_err-means : goal.returns-in_err-means
returns-in_err-means c =
    let p = err_from_is_err_and c.from_residual.result c.from_residual.ensures.1 in
    rw (p.1, p.2) (meets_front c.in_err-means.field-0.0 (argument_faults c.args.source.now (quantum_named c.args.known.now) c.args.args.now) _ (all_meant c.args.source.now (quantum_named c.args.known.now) c.args.args.now) _ c.in_err-means.ensures)

pub returns-then-args-called : goal.returns-then-args-called
returns-then-args-called c = first_this _ Arity _ c.args.at _ c.in_ok-means.ensures.0 (differs (length c.args.args.now) c.args.called.arity c.if-args-called.true)

pub returns-then-not-are_equal : goal.returns-then-not-are_equal
returns-then-not-are_equal c =
    let m : c.as_slice-meant.result.now ≡ all_meant c.args.source.now (quantum_named c.args.known.now) c.args.args.now = c.as_slice-meant.ensures ∙ c.in_ok-means.ensures.1 in
    let e : are_equal (all_meant c.args.source.now (quantum_named c.args.known.now) c.args.args.now) ≡ false =
    ap are_equal (sym m) ∙ ap (λ (n : ℕ). list_all (has_size n) c.as_slice-meant.result.now) (sym c.times-applied.ensures) ∙ sym c.if-not-are_equal.ensures in
    first_past _ Arity _ c.args.at _ c.in_ok-means.ensures.0 (agrees (length c.args.args.now) c.args.called.arity c.if-args-called.false)
    ∙ rule_is Sizes _ c.args.at _ (negated _ e)

pub returns-then-meets_itself : goal.returns-then-meets_itself
returns-then-meets_itself c =
    let m : c.as_slice-meant.result.now ≡ all_meant c.args.source.now (quantum_named c.args.known.now) c.args.args.now = c.as_slice-meant.ensures ∙ c.in_ok-means.ensures.1 in
    let e : are_equal (all_meant c.args.source.now (quantum_named c.args.known.now) c.args.args.now) ≡ true =
    ap are_equal (sym m) ∙ ap (λ (n : ℕ). list_all (has_size n) c.as_slice-meant.result.now) (sym c.times-applied.ensures) ∙ sym c.if-not-are_equal.ensures in
    let h : meets_itself (all_meant c.args.source.now (quantum_named c.args.known.now) c.args.args.now) ≡ true =
    ap meets_itself (sym m) ∙ ap (λ (n : ℕ). any_pair (meets n) c.as_slice-meant.result.now) (sym c.times-applied.ensures) ∙ sym c.if-meets_itself.ensures in
    first_past _ Arity _ c.args.at _ c.in_ok-means.ensures.0 (agrees (length c.args.args.now) c.args.called.arity c.if-args-called.false)
    ∙ rule_not Sizes _ c.args.at _ (affirmed _ e)
    ∙ rule_is SameQubit _ c.args.at _ h

pub returns : goal.returns
returns c =
    let m : c.as_slice-meant.result.now ≡ all_meant c.args.source.now (quantum_named c.args.known.now) c.args.args.now = c.as_slice-meant.ensures ∙ c.in_ok-means.ensures.1 in
    let e : are_equal (all_meant c.args.source.now (quantum_named c.args.known.now) c.args.args.now) ≡ true =
    ap are_equal (sym m) ∙ ap (λ (n : ℕ). list_all (has_size n) c.as_slice-meant.result.now) (sym c.times-applied.ensures) ∙ sym c.if-not-are_equal.ensures in
    let h : meets_itself (all_meant c.args.source.now (quantum_named c.args.known.now) c.args.args.now) ≡ false =
    ap meets_itself (sym m) ∙ ap (λ (n : ℕ). any_pair (meets n) c.as_slice-meant.result.now) (sym c.times-applied.ensures) ∙ sym c.if-meets_itself.ensures in (
      first_past _ Arity _ c.args.at _ c.in_ok-means.ensures.0 (agrees (length c.args.args.now) c.args.called.arity c.if-args-called.false)
          ∙ rule_not Sizes _ c.args.at _ (affirmed _ e)
          ∙ rule_not SameQubit _ c.args.at [] h ∙ first_none,
      c.in_ok-means.ensures.1,
    )
