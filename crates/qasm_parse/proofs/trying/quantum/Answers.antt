use Rattle.std.proofs.Common.{◌≡◌, ℕ, ◌+◌, [], ◌∷◌, ◌++◌, true, false, sym, ap, ◌∙◌}
use Rattle.std.specs.Prelude.{nat_lt}
use Rattle.std.proofs.lemmas.Result.{err_from_is_err_and}
use Rattle.qasm_lex.specs.declared.fault.FaultKind.TheVariants.{TooMany}
use Rattle.qasm_parse.specs.declared.known.Meaning.TheVariants.{Quantum}
use Rattle.qasm_parse.specs.Lexed.{word_at, number_at}
use Rattle.qasm_parse.specs.Known.{with_name}
use Rattle.qasm_parse.specs.Faults.{register_faults, qubits_pass}
use Rattle.qasm_parse.specs.Behind.{declared_at, with_quantum}
use Rattle.qasm_parse.proofs.First.{first_none}
use Rattle.qasm_parse.proofs.Broken.{first_this, first_past, meets_front, passes, stays}
use Rattle.qasm_parse.proofs.Made.{declared_quantum}
use Rattle.qasm_parse.proofs.trying.quantum.Goals as goal

pub returns-in_err-members : goal.returns-in_err-members
returns-in_err-members c =
    let p = err_from_is_err_and c.from_residual.result c.from_residual.ensures.1 in
    rw (p.1, p.2) (meets_front c.in_err-members.field-0.0 (register_faults c.args.source.now c.args.known c.args.at c.args.name c.args.size) _ (number_at c.args.source.now c.args.size) (with_quantum c.args.source.now c.args.known c.args.name (number_at c.args.source.now c.args.size)) c.in_err-members.ensures.value)

pub returns-then-known-members : goal.returns-then-known-members
returns-then-known-members c =
    let e : qubits_pass c.args.known (number_at c.args.source.now c.args.size) ≡ true =
    ap (λ (n : ℕ). nat_lt 1024 (c.args.known.qubits + n)) (sym c.in_ok-members.ensures.value.1) ∙ passes 1024 (c.args.known.qubits + c.in_ok-members.members) c.if-known-members.true in
    first_this (register_faults c.args.source.now c.args.known c.args.at c.args.name c.args.size) TooMany _ c.args.at [] c.in_ok-members.ensures.value.0 e

pub declare-requires-clause-new : goal.declare-requires-clause-new
declare-requires-clause-new c = rw c.word.ensures c.in_ok-members.ensures.new

pub returns : goal.returns
returns c =
    let x = c.args.source.now in
    let k = c.args.known in
    let size : c.in_ok-members.members ≡ number_at x c.args.size = c.in_ok-members.ensures.value.1 in
    let named : c.declare.new.self ≡ with_name k (word_at x c.args.name) (Quantum (record { first = k.qubits; size = number_at x c.args.size })) =
    c.in_ok-declare.ensures ∙ (λ i. with_name k (c.word.ensures i) (Quantum (record { first = k.qubits; size = size i }))) in
    let pushed : c.push.new.self ≡ k.tree.quantum ++ declared_at x c.args.name k.qubits (number_at x c.args.size) ∷ [] =
    c.in_ok-push.ensures.ok ∙ (λ i. (named i).tree.quantum ++ (c.declared.ensures ∙ ap (declared_at x c.args.name k.qubits) size) i ∷ []) in
    let fine : qubits_pass k (number_at x c.args.size) ≡ false = ap (λ (n : ℕ). nat_lt 1024 (c.args.known.qubits + n)) (sym c.in_ok-members.ensures.value.1) ∙ stays 1024 (c.args.known.qubits + c.in_ok-members.members) c.if-known-members.false in (
      first_past (register_faults x k c.args.at c.args.name c.args.size) TooMany _ c.args.at [] c.in_ok-members.ensures.value.0 fine ∙ first_none,
      λ i. declared_quantum (named i) (pushed i) (size i),
    )
