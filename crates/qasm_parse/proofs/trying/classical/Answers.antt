use Rattle.std.proofs.Common.{◌≡◌, ◌+◌, [], ◌∷◌, ◌++◌, ◌||◌, true, false, length, sym, ap, ◌∙◌}
use Rattle.std.specs.Prelude.{nat_le, nat_lt}
use Rattle.std.proofs.lemmas.Result.{err_from_is_err_and}
use Rattle.qasm_lex.specs.declared.fault.FaultKind.TheVariants.{TooMany}
use Rattle.qasm_parse.specs.declared.known.Meaning.TheVariants.{Classical}
use Rattle.qasm_parse.specs.Lexed.{word_at, number_at}
use Rattle.qasm_parse.specs.Known.{with_name}
use Rattle.qasm_parse.specs.Faults.{register_faults, bits_pass}
use Rattle.qasm_parse.specs.Behind.{declared_at, with_classical}
use Rattle.qasm_parse.proofs.First.{first_none}
use Rattle.qasm_parse.proofs.Broken.{first_this, first_past, meets_front}
use Rattle.qasm_parse.proofs.Made.{declared_classical}
use Rattle.qasm_parse.proofs.trying.classical.Goals as goal

pub returns-in_err-members : goal.returns-in_err-members
returns-in_err-members c =
    let p = err_from_is_err_and c.from_residual.result c.from_residual.ensures.1 in
    rw (p.1, p.2) (meets_front c.in_err-members.field-0.0 (register_faults c.args.source.now c.args.known c.args.at c.args.name c.args.size) _ (number_at c.args.source.now c.args.size) (with_classical c.args.source.now c.args.known c.args.name (number_at c.args.source.now c.args.size)) c.in_err-members.ensures.value)

pub returns-then-too_many_bits : goal.returns-then-too_many_bits
returns-then-too_many_bits c =
    let x = c.args.source.now in
    let k = c.args.known in
    let e : bits_pass k (number_at x c.args.size) ≡ true =
    (λ i. nat_le 64 (length (sym c.as_slice.ensures i)) || nat_lt 16384 (k.bits + sym c.in_ok-members.ensures.value.1 i)) ∙ sym c.if-too_many_bits.ensures.value in
    first_this (register_faults x k c.args.at c.args.name c.args.size) TooMany _ c.args.at [] c.in_ok-members.ensures.value.0 e

pub declare-requires-clause-new : goal.declare-requires-clause-new
declare-requires-clause-new c = rw c.word.ensures c.in_ok-members.ensures.new

pub returns : goal.returns
returns c =
    let x = c.args.source.now in
    let k = c.args.known in
    let size : c.in_ok-members.members ≡ number_at x c.args.size = c.in_ok-members.ensures.value.1 in
    let named : c.declare.new.self ≡ with_name k (word_at x c.args.name) (Classical (record { first = k.bits; size = number_at x c.args.size })) =
    c.in_ok-declare.ensures ∙ (λ i. with_name k (c.word.ensures i) (Classical (record { first = k.bits; size = size i }))) in
    let pushed : c.push.new.self ≡ k.tree.classical ++ declared_at x c.args.name k.bits (number_at x c.args.size) ∷ [] =
    c.in_ok-push.ensures.ok ∙ (λ i. (named i).tree.classical ++ (c.declared.ensures ∙ ap (declared_at x c.args.name k.bits) size) i ∷ []) in
    let fine : bits_pass k (number_at x c.args.size) ≡ false =
    (λ i. nat_le 64 (length (sym c.as_slice.ensures i)) || nat_lt 16384 (k.bits + sym size i)) ∙ sym c.if-too_many_bits.ensures.value in (
      first_past (register_faults x k c.args.at c.args.name c.args.size) TooMany _ c.args.at [] c.in_ok-members.ensures.value.0 fine ∙ first_none,
      λ i. declared_classical (named i) (pushed i) (size i),
    )
