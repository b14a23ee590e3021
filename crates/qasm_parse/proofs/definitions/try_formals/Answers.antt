use Rattle.std.proofs.Common.{◌≡◌, true, false, [], nat_eq, length, map, sym, ap, ◌∙◌}
use Rattle.std.proofs.lemmas.Result.{err_from_is_err_and}
use Rattle.qasm_lex.specs.declared.fault.FaultKind.TheVariants.{Arity, SameQubit, TooMany}
use Rattle.qasm_parse.specs.declared.tree.BodyOp.TheVariants as ops
use Rattle.qasm_parse.specs.Faults.{informal, formal_of, any_pair}
use Rattle.qasm_parse.proofs.First.{first_none}
use Rattle.qasm_parse.proofs.Broken.{first_this, first_past, rule_is, rule_not, differs, agrees, reaches, falls_short, meets_front}
use Rattle.qasm_parse.proofs.definitions.try_formals.Goals as goal

pub returns-in_err-numbers-clause-value : goal.returns-in_err-numbers-clause-value
returns-in_err-numbers-clause-value c =
    let p = err_from_is_err_and c.from_residual.result c.from_residual.ensures.1 in
    rw (p.1, p.2) (meets_front c.in_err-numbers.field-0.0 (map (informal c.args.source.now c.args.names.now) c.args.args.now) _ (map (formal_of c.args.source.now c.args.names.now) c.args.args.now) _ c.in_err-numbers.ensures)

pub returns-then-args-called-clause-value : goal.returns-then-args-called-clause-value
returns-then-args-called-clause-value c = first_this _ Arity _ c.args.at _ c.in_ok-numbers.ensures.0 (differs (length c.args.args.now) c.args.called.arity c.if-args-called.true)

pub returns-then-has_twice-clause-value : goal.returns-then-has_twice-clause-value
returns-then-has_twice-clause-value c =
    let e : any_pair nat_eq (map (formal_of c.args.source.now c.args.names.now) c.args.args.now) ≡ true = ap (any_pair nat_eq) (sym (c.as_slice.ensures ∙ c.in_ok-numbers.ensures.1)) ∙ sym c.if-has_twice.ensures in
    first_past _ Arity _ c.args.at _ c.in_ok-numbers.ensures.0 (agrees (length c.args.args.now) c.args.called.arity c.if-args-called.false)
    ∙ rule_is SameQubit _ c.args.at _ e

pub returns-then-called-ge-DEPTH-clause-value : goal.returns-then-called-ge-DEPTH-clause-value
returns-then-called-ge-DEPTH-clause-value c =
    let e : any_pair nat_eq (map (formal_of c.args.source.now c.args.names.now) c.args.args.now) ≡ false = ap (any_pair nat_eq) (sym (c.as_slice.ensures ∙ c.in_ok-numbers.ensures.1)) ∙ sym c.if-has_twice.ensures in
    first_past _ Arity _ c.args.at _ c.in_ok-numbers.ensures.0 (agrees (length c.args.args.now) c.args.called.arity c.if-args-called.false)
    ∙ rule_not SameQubit _ c.args.at _ e
    ∙ rule_is TooMany _ c.args.at _ (reaches 64 c.args.called.depth c.if-called-ge-DEPTH.true)

pub returns-clause-value : goal.returns-clause-value
returns-clause-value c =
    let e : any_pair nat_eq (map (formal_of c.args.source.now c.args.names.now) c.args.args.now) ≡ false = ap (any_pair nat_eq) (sym (c.as_slice.ensures ∙ c.in_ok-numbers.ensures.1)) ∙ sym c.if-has_twice.ensures in (
      first_past _ Arity _ c.args.at _ c.in_ok-numbers.ensures.0 (agrees (length c.args.args.now) c.args.called.arity c.if-args-called.false)
          ∙ rule_not SameQubit _ c.args.at _ e
          ∙ rule_not TooMany _ c.args.at [] (falls_short 64 c.args.called.depth c.if-called-ge-DEPTH.false)
          ∙ first_none,
      ap (ops.Call c.args.called.gate) c.in_ok-numbers.ensures.1,
    )
