use Rattle.std.proofs.Common.{unwrap_or, ◌≡◌, List, Option, None, sym, ap, ◌∙◌}
use Rattle.std.proofs.lemmas.Result.{err_from_is_err_and}
use Rattle.qasm_grammar.specs.declared.spoken.Argument.{Argument}
use Rattle.qasm_parse.specs.declared.tree.Statement.TheVariants as statements
use Rattle.qasm_parse.specs.declared.known.Called.{Called}
use Rattle.qasm_parse.specs.Lexed.{word_at}
use Rattle.qasm_parse.specs.Gates.{cx}
use Rattle.qasm_parse.specs.Known.{quantum_named, gate_named}
use Rattle.qasm_parse.specs.Faults.{first_fault, all_meant, call_faults, named_call_faults}
use Rattle.qasm_parse.specs.Behind.{gate_of, call_statement, with_statement}
use Rattle.qasm_parse.proofs.Broken.{meets_same, only_meets, named_known, unknown_meets}
use Rattle.qasm_parse.proofs.trying.named_call.Goals as goal

pub returns-in_err-called : goal.returns-in_err-called
returns-in_err-called c =
    let x = c.args.source.now in
    let k = c.args.known in
    let call = c.args.call.now in
    let p = err_from_is_err_and c.from_residual.result c.from_residual.ensures.1 in
    rw (p.1, p.2) (unknown_meets c.in_err-called.field-0.0 (gate_named k (word_at x call.name)) call.name (λ g. call_faults x k c.args.at g call.args) (with_statement k (call_statement x k c.args.at call)) c.in_err-called.ensures)

pub returns-in_err-args : goal.returns-in_err-args
returns-in_err-args c =
    let x = c.args.source.now in
    let k = c.args.known in
    let call = c.args.call.now in
    let g = c.in_ok-called.called in
    let p = err_from_is_err_and c.from_residual-in_err-args.result c.from_residual-in_err-args.ensures.1 in
    let e : first_fault (named_call_faults x k c.args.at call) ≡ first_fault (call_faults x k c.args.at g c.as_slice.result.now) =
    ap first_fault (named_known (gate_named k (word_at x call.name)) call.name (λ h. call_faults x k c.args.at h call.args) g c.in_ok-called.ensures)
    ∙ ap (λ (them : List Argument). first_fault (call_faults x k c.args.at g them)) (sym c.as_slice.ensures) in
    rw (p.1, p.2) (meets_same c.in_err-args.field-0.0 (call_faults x k c.args.at g c.as_slice.result.now) (named_call_faults x k c.args.at call) (all_meant x (quantum_named k) c.as_slice.result.now) (with_statement k (call_statement x k c.args.at call)) e c.in_err-args.ensures)

pub returns : goal.returns
returns c =
    let x = c.args.source.now in
    let k = c.args.known in
    let call = c.args.call.now in
    let g = c.in_ok-called.called in
    let e : first_fault (named_call_faults x k c.args.at call) ≡ None =
    ap first_fault (named_known (gate_named k (word_at x call.name)) call.name (λ h. call_faults x k c.args.at h call.args) g c.in_ok-called.ensures)
    ∙ ap (λ (them : List Argument). first_fault (call_faults x k c.args.at g them)) (sym c.as_slice.ensures)
    ∙ c.in_ok-args.ensures.0 in
    let gate : g ≡ gate_of x k call.name = ap (λ (o : Option Called). unwrap_or o cx) (sym c.in_ok-called.ensures) in
    let args : c.in_ok-args.args ≡ all_meant x (quantum_named k) call.args = c.in_ok-args.ensures.1 ∙ ap (all_meant x (quantum_named k)) c.as_slice.ensures in
    only_meets c.added.result (with_statement k (statements.Call c.line.result g.gate c.in_ok-args.args)) (with_statement k (call_statement x k c.args.at call)) (named_call_faults x k c.args.at call) e
    (λ i. with_statement k (statements.Call (c.line.ensures i) (gate i).gate (args i))) c.added.ensures
