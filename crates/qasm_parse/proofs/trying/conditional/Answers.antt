use Rattle.std.proofs.Common.{◌≡◌, List, ◌∷◌, Option, Some, is_none, sym, ap, ◌∙◌}
use Rattle.std.proofs.lemmas.Result.{err_from_is_err_and}
use Rattle.qasm_lex.specs.declared.fault.FaultKind.TheVariants.{Unsupported, Undeclared}
use Rattle.qasm_parse.specs.declared.stop.Stop.{Stop}
use Rattle.qasm_grammar.specs.declared.spoken.Argument.{Argument}
use Rattle.qasm_parse.specs.declared.tree.Statement.TheVariants as statements
use Rattle.qasm_parse.specs.declared.known.Span.{Span}
use Rattle.qasm_parse.specs.declared.known.Called.{Called}
use Rattle.qasm_parse.specs.Lexed.{word_at}
use Rattle.qasm_parse.specs.Gates.{pauli_of}
use Rattle.qasm_parse.specs.Known.{quantum_named, classical_named, gate_named, is_own_gate}
use Rattle.qasm_parse.specs.Faults.{first_fault, broken, undeclared, all_meant, call_faults, named_faults, if_faults}
use Rattle.qasm_parse.specs.Behind.{span_named, first_of, if_statement, with_statement}
use Rattle.qasm_parse.proofs.First.{first_here, first_next}
use Rattle.qasm_parse.proofs.Broken.{stop_at, rule_is, rule_not, meets_same, only_meets, named_known, unknown_meets}
use Rattle.qasm_parse.proofs.trying.conditional.Goals as goal

pub returns-then-is_own_gate : goal.returns-then-is_own_gate
returns-then-is_own_gate c = rule_is Unsupported (is_own_gate c.args.known (word_at c.args.source.now c.args.call.now.name)) c.args.call.now.name _ (ap (is_own_gate c.args.known) (sym c.word-word.ensures) ∙ sym c.if-is_own_gate.ensures)

pub returns-in_err-called : goal.returns-in_err-called
returns-in_err-called c =
    let x = c.args.source.now in
    let k = c.args.known in
    let call = c.args.call.now in
    let others : Called → List (Option Stop) = λ g. undeclared x (classical_named k) c.args.register ∷ call_faults x k c.args.at g call.args in
    let theirs : first_fault (if_faults x k c.args.at c.args.register call) ≡ first_fault (named_faults (gate_named k (word_at x call.name)) call.name others) =
    rule_not Unsupported (is_own_gate k (word_at x call.name)) call.name _ (ap (is_own_gate c.args.known) (sym c.word-word.ensures) ∙ sym c.if-is_own_gate.ensures) in
    let p = err_from_is_err_and c.from_residual.result c.from_residual.ensures.1 in
    let v = with_statement k (if_statement x k c.args.at c.args.register c.args.value call) in
    rw (p.1, p.2) (meets_same c.in_err-called.field-0.0 (named_faults (gate_named k (word_at x call.name)) call.name others) (if_faults x k c.args.at c.args.register call) v v theirs
    (unknown_meets c.in_err-called.field-0.0 (gate_named k (word_at x call.name)) call.name others v c.in_err-called.ensures))

pub returns-in-None : goal.returns-in-None
returns-in-None c =
    let x = c.args.source.now in
    let k = c.args.known in
    let call = c.args.call.now in
    let others : Called → List (Option Stop) = λ g. undeclared x (classical_named k) c.args.register ∷ call_faults x k c.args.at g call.args in
    let theirs : first_fault (if_faults x k c.args.at c.args.register call) ≡ first_fault (named_faults (gate_named k (word_at x call.name)) call.name others) =
    rule_not Unsupported (is_own_gate k (word_at x call.name)) call.name _ (ap (is_own_gate c.args.known) (sym c.word-word.ensures) ∙ sym c.if-is_own_gate.ensures) in
    let g = c.in_ok-called.called in
    let begun : first_fault (if_faults x k c.args.at c.args.register call) ≡ first_fault (others g) = theirs ∙ ap first_fault (named_known (gate_named k (word_at x call.name)) call.name others g c.in_ok-called.ensures) in
    begun
    ∙ first_here (undeclared x (classical_named k) c.args.register) (call_faults x k c.args.at g call.args) (stop_at Undeclared c.args.register)
    (ap (λ (r : Option Span). broken Undeclared (is_none r) c.args.register) (ap (classical_named k) (sym c.word.ensures) ∙ sym c.in-None.ensures.value))

pub returns-in_err-args : goal.returns-in_err-args
returns-in_err-args c =
    let x = c.args.source.now in
    let k = c.args.known in
    let call = c.args.call.now in
    let others : Called → List (Option Stop) = λ g. undeclared x (classical_named k) c.args.register ∷ call_faults x k c.args.at g call.args in
    let theirs : first_fault (if_faults x k c.args.at c.args.register call) ≡ first_fault (named_faults (gate_named k (word_at x call.name)) call.name others) =
    rule_not Unsupported (is_own_gate k (word_at x call.name)) call.name _ (ap (is_own_gate c.args.known) (sym c.word-word.ensures) ∙ sym c.if-is_own_gate.ensures) in
    let g = c.in_ok-called.called in
    let begun : first_fault (if_faults x k c.args.at c.args.register call) ≡ first_fault (others g) = theirs ∙ ap first_fault (named_known (gate_named k (word_at x call.name)) call.name others g c.in_ok-called.ensures) in
    let found : classical_named k (word_at x c.args.register) ≡ Some c.in-Some.bits = ap (classical_named k) (sym c.word.ensures) ∙ sym c.in-Some.ensures.value in
    let e : first_fault (if_faults x k c.args.at c.args.register call) ≡ first_fault (call_faults x k c.args.at g c.as_slice.result.now) =
    begun
    ∙ first_next (undeclared x (classical_named k) c.args.register) (call_faults x k c.args.at g call.args) (ap (λ (r : Option Span). broken Undeclared (is_none r) c.args.register) found)
    ∙ ap (λ (them : List Argument). first_fault (call_faults x k c.args.at g them)) (sym c.as_slice.ensures) in
    let p = err_from_is_err_and c.from_residual-in_err-args.result c.from_residual-in_err-args.ensures.1 in
    rw (p.1, p.2) (meets_same c.in_err-args.field-0.0 (call_faults x k c.args.at g c.as_slice.result.now) (if_faults x k c.args.at c.args.register call) (all_meant x (quantum_named k) c.as_slice.result.now) (with_statement k (if_statement x k c.args.at c.args.register c.args.value call)) e c.in_err-args.ensures)

pub returns : goal.returns
returns c =
    let x = c.args.source.now in
    let k = c.args.known in
    let call = c.args.call.now in
    let others : Called → List (Option Stop) = λ g. undeclared x (classical_named k) c.args.register ∷ call_faults x k c.args.at g call.args in
    let theirs : first_fault (if_faults x k c.args.at c.args.register call) ≡ first_fault (named_faults (gate_named k (word_at x call.name)) call.name others) =
    rule_not Unsupported (is_own_gate k (word_at x call.name)) call.name _ (ap (is_own_gate c.args.known) (sym c.word-word.ensures) ∙ sym c.if-is_own_gate.ensures) in
    let g = c.in_ok-called.called in
    let begun : first_fault (if_faults x k c.args.at c.args.register call) ≡ first_fault (others g) = theirs ∙ ap first_fault (named_known (gate_named k (word_at x call.name)) call.name others g c.in_ok-called.ensures) in
    let found : classical_named k (word_at x c.args.register) ≡ Some c.in-Some.bits = ap (classical_named k) (sym c.word.ensures) ∙ sym c.in-Some.ensures.value in
    let e : first_fault (if_faults x k c.args.at c.args.register call) ≡ first_fault (call_faults x k c.args.at g c.as_slice.result.now) =
    begun
    ∙ first_next (undeclared x (classical_named k) c.args.register) (call_faults x k c.args.at g call.args) (ap (λ (r : Option Span). broken Undeclared (is_none r) c.args.register) found)
    ∙ ap (λ (them : List Argument). first_fault (call_faults x k c.args.at g them)) (sym c.as_slice.ensures) in
    let bits : c.in-Some.bits ≡ span_named (classical_named k (word_at x c.args.register)) = ap span_named (sym found) in
    let gate : c.pauli_of.result ≡ pauli_of (word_at x call.name) = c.pauli_of.ensures ∙ ap pauli_of c.word-word.ensures in
    let arg : c.first_arg.result ≡ first_of (all_meant x (quantum_named k) call.args) =
    c.first_arg.ensures ∙ ap first_of (c.as_slice-2.ensures ∙ c.in_ok-args.ensures.1 ∙ ap (all_meant x (quantum_named k)) c.as_slice.ensures) in
    only_meets c.added.result (with_statement k (statements.If c.line.result c.in-Some.bits.first c.in-Some.bits.size c.number.result c.pauli_of.result c.first_arg.result)) (with_statement k (if_statement x k c.args.at c.args.register c.args.value call)) (if_faults x k c.args.at c.args.register call) (e ∙ c.in_ok-args.ensures.0)
    (λ i. with_statement k (statements.If (c.line.ensures i) (bits i).first (bits i).size (c.number.ensures i) (gate i) (arg i))) c.added.ensures
