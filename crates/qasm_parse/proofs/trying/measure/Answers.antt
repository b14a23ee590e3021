use Rattle.std.proofs.Common.{◌≡◌, ℕ, [], true, false, Option, Some, None, sym, ap, ◌∙◌}
use Rattle.qasm_lex.specs.declared.fault.FaultKind.TheVariants.{Undeclared, Sizes}
use Rattle.qasm_parse.specs.declared.tree.Statement.TheVariants as statements
use Rattle.qasm_parse.specs.declared.known.Span.{Span}
use Rattle.qasm_parse.specs.Lexed.{word_at}
use Rattle.qasm_parse.specs.Known.{quantum_named, classical_named}
use Rattle.qasm_parse.specs.Faults.{first_fault, undeclared, past_end, name_place, register_of, meant, fit_together, measure_faults}
use Rattle.qasm_parse.specs.Behind.{measure_statement, with_statement}
use Rattle.qasm_parse.proofs.First.{first_none, first_here, first_next}
use Rattle.qasm_parse.proofs.Broken.{stop_at, rule_is, rule_not, only_meets, negated, affirmed}
use Rattle.qasm_parse.proofs.Arguments.{no_register, a_register}
use Rattle.qasm_parse.proofs.trying.measure.Goals as goal

pub returns-in-None : goal.returns-in-None
returns-in-None c =
    let x = c.args.source.now in
    let k = c.args.known in
    let from = c.args.from in
    let to = c.args.to in
    let e : register_of x (quantum_named k) from ≡ None =
    ap (λ (n : ℕ). quantum_named k (word_at x n)) (sym c.name_place-name.ensures) ∙ ap (quantum_named k) (sym c.word.ensures) ∙ sym c.in-None.ensures.value in
    first_here (undeclared x (quantum_named k) (name_place from)) _ (stop_at Undeclared (name_place from)) (no_register x (quantum_named k) from e)
    ∙ ap (λ (n : ℕ). Some (stop_at Undeclared n)) (sym c.name_place-name.ensures)

pub returns-in-None-classical : goal.returns-in-None-classical
returns-in-None-classical c =
    let x = c.args.source.now in
    let k = c.args.known in
    let from = c.args.from in
    let to = c.args.to in
    let q : register_of x (quantum_named k) from ≡ Some c.in-Some.qubits =
    ap (λ (n : ℕ). quantum_named k (word_at x n)) (sym c.name_place-name.ensures) ∙ ap (quantum_named k) (sym c.word.ensures) ∙ sym c.in-Some.ensures.value in
    let e : register_of x (classical_named k) to ≡ None =
    ap (λ (n : ℕ). classical_named k (word_at x n)) (sym c.name_place-target.ensures) ∙ ap (classical_named k) (sym c.word-2.ensures) ∙ sym c.in-None-classical.ensures.value in
    first_next (undeclared x (quantum_named k) (name_place from)) _ (a_register x (quantum_named k) from c.in-Some.qubits q)
    ∙ first_here (undeclared x (classical_named k) (name_place to)) _ (stop_at Undeclared (name_place to)) (no_register x (classical_named k) to e)
    ∙ ap (λ (n : ℕ). Some (stop_at Undeclared n)) (sym c.name_place-target.ensures)

pub returns-in-Some-past_end : goal.returns-in-Some-past_end
returns-in-Some-past_end c =
    let x = c.args.source.now in
    let k = c.args.known in
    let from = c.args.from in
    let to = c.args.to in
    let q : register_of x (quantum_named k) from ≡ Some c.in-Some.qubits =
    ap (λ (n : ℕ). quantum_named k (word_at x n)) (sym c.name_place-name.ensures) ∙ ap (quantum_named k) (sym c.word.ensures) ∙ sym c.in-Some.ensures.value in
    let b : register_of x (classical_named k) to ≡ Some c.in-Some-classical.bits =
    ap (λ (n : ℕ). classical_named k (word_at x n)) (sym c.name_place-target.ensures) ∙ ap (classical_named k) (sym c.word-2.ensures) ∙ sym c.in-Some-classical.ensures.value in
    first_next (undeclared x (quantum_named k) (name_place from)) _ (a_register x (quantum_named k) from c.in-Some.qubits q)
    ∙ first_next (undeclared x (classical_named k) (name_place to)) _ (a_register x (classical_named k) to c.in-Some-classical.bits b)
    ∙ first_here (past_end x (register_of x (quantum_named k) from) from) _ c.in-Some-past_end.stop (ap (λ (r : Option Span). past_end x r from) q ∙ sym c.in-Some-past_end.ensures)

pub returns-in-Some-past_end-2 : goal.returns-in-Some-past_end-2
returns-in-Some-past_end-2 c =
    let x = c.args.source.now in
    let k = c.args.known in
    let from = c.args.from in
    let to = c.args.to in
    let q : register_of x (quantum_named k) from ≡ Some c.in-Some.qubits =
    ap (λ (n : ℕ). quantum_named k (word_at x n)) (sym c.name_place-name.ensures) ∙ ap (quantum_named k) (sym c.word.ensures) ∙ sym c.in-Some.ensures.value in
    let b : register_of x (classical_named k) to ≡ Some c.in-Some-classical.bits =
    ap (λ (n : ℕ). classical_named k (word_at x n)) (sym c.name_place-target.ensures) ∙ ap (classical_named k) (sym c.word-2.ensures) ∙ sym c.in-Some-classical.ensures.value in
    first_next (undeclared x (quantum_named k) (name_place from)) _ (a_register x (quantum_named k) from c.in-Some.qubits q)
    ∙ first_next (undeclared x (classical_named k) (name_place to)) _ (a_register x (classical_named k) to c.in-Some-classical.bits b)
    ∙ first_next (past_end x (register_of x (quantum_named k) from) from) _ (ap (λ (r : Option Span). past_end x r from) q ∙ sym c.in-None-past_end.ensures)
    ∙ first_here (past_end x (register_of x (classical_named k) to) to) _ c.in-Some-past_end-2.stop (ap (λ (r : Option Span). past_end x r to) b ∙ sym c.in-Some-past_end-2.ensures)

pub returns-then-not-fit_together : goal.returns-then-not-fit_together
returns-then-not-fit_together c =
    let x = c.args.source.now in
    let k = c.args.known in
    let from = c.args.from in
    let to = c.args.to in
    let q : register_of x (quantum_named k) from ≡ Some c.in-Some.qubits =
    ap (λ (n : ℕ). quantum_named k (word_at x n)) (sym c.name_place-name.ensures) ∙ ap (quantum_named k) (sym c.word.ensures) ∙ sym c.in-Some.ensures.value in
    let b : register_of x (classical_named k) to ≡ Some c.in-Some-classical.bits =
    ap (λ (n : ℕ). classical_named k (word_at x n)) (sym c.name_place-target.ensures) ∙ ap (classical_named k) (sym c.word-2.ensures) ∙ sym c.in-Some-classical.ensures.value in
    let measured : c.meant-measured.result ≡ meant x (register_of x (quantum_named k) from) from = c.meant-measured.ensures ∙ ap (λ (r : Option Span). meant x r from) (sym q) in
    let written : c.meant-written.result ≡ meant x (register_of x (classical_named k) to) to = c.meant-written.ensures ∙ ap (λ (r : Option Span). meant x r to) (sym b) in
    let fits : fit_together (meant x (register_of x (quantum_named k) from) from) (meant x (register_of x (classical_named k) to) to) ≡ false = (λ i. fit_together (sym measured i) (sym written i)) ∙ sym c.if-not-fit_together.ensures in
    first_next (undeclared x (quantum_named k) (name_place from)) _ (a_register x (quantum_named k) from c.in-Some.qubits q)
    ∙ first_next (undeclared x (classical_named k) (name_place to)) _ (a_register x (classical_named k) to c.in-Some-classical.bits b)
    ∙ first_next (past_end x (register_of x (quantum_named k) from) from) _ (ap (λ (r : Option Span). past_end x r from) q ∙ sym c.in-None-past_end.ensures)
    ∙ first_next (past_end x (register_of x (classical_named k) to) to) _ (ap (λ (r : Option Span). past_end x r to) b ∙ sym c.in-None-past_end-2.ensures)
    ∙ rule_is Sizes _ c.args.at [] (negated _ fits)

pub returns : goal.returns
returns c =
    let x = c.args.source.now in
    let k = c.args.known in
    let from = c.args.from in
    let to = c.args.to in
    let q : register_of x (quantum_named k) from ≡ Some c.in-Some.qubits =
    ap (λ (n : ℕ). quantum_named k (word_at x n)) (sym c.name_place-name.ensures) ∙ ap (quantum_named k) (sym c.word.ensures) ∙ sym c.in-Some.ensures.value in
    let b : register_of x (classical_named k) to ≡ Some c.in-Some-classical.bits =
    ap (λ (n : ℕ). classical_named k (word_at x n)) (sym c.name_place-target.ensures) ∙ ap (classical_named k) (sym c.word-2.ensures) ∙ sym c.in-Some-classical.ensures.value in
    let measured : c.meant-measured.result ≡ meant x (register_of x (quantum_named k) from) from = c.meant-measured.ensures ∙ ap (λ (r : Option Span). meant x r from) (sym q) in
    let written : c.meant-written.result ≡ meant x (register_of x (classical_named k) to) to = c.meant-written.ensures ∙ ap (λ (r : Option Span). meant x r to) (sym b) in
    let fits : fit_together (meant x (register_of x (quantum_named k) from) from) (meant x (register_of x (classical_named k) to) to) ≡ true = (λ i. fit_together (sym measured i) (sym written i)) ∙ sym c.if-not-fit_together.ensures in
    let e : first_fault (measure_faults x k c.args.at from to) ≡ None =
    first_next (undeclared x (quantum_named k) (name_place from)) _ (a_register x (quantum_named k) from c.in-Some.qubits q)
    ∙ first_next (undeclared x (classical_named k) (name_place to)) _ (a_register x (classical_named k) to c.in-Some-classical.bits b)
    ∙ first_next (past_end x (register_of x (quantum_named k) from) from) _ (ap (λ (r : Option Span). past_end x r from) q ∙ sym c.in-None-past_end.ensures)
    ∙ first_next (past_end x (register_of x (classical_named k) to) to) _ (ap (λ (r : Option Span). past_end x r to) b ∙ sym c.in-None-past_end-2.ensures)
    ∙ rule_not Sizes _ c.args.at [] (affirmed _ fits)
    ∙ first_none in
    only_meets c.added.result (with_statement k (statements.Measure c.line.result c.meant-measured.result c.meant-written.result)) (with_statement k (measure_statement x k c.args.at from to)) (measure_faults x k c.args.at from to) e
    (λ i. with_statement k (statements.Measure (c.line.ensures i) (measured i) (written i))) c.added.ensures
