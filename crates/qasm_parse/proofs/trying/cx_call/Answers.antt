use Rattle.std.proofs.Common.{◌≡◌, None, sym, ◌∙◌}
use Rattle.std.proofs.lemmas.Result.{err_from_is_err_and}
use Rattle.qasm_parse.specs.declared.tree.Statement.TheVariants as statements
use Rattle.qasm_parse.specs.Lexed.{line_of}
use Rattle.qasm_parse.specs.Gates.{cx}
use Rattle.qasm_parse.specs.Known.{quantum_named}
use Rattle.qasm_parse.specs.Faults.{first_fault, all_meant, call_faults}
use Rattle.qasm_parse.specs.Behind.{with_statement}
use Rattle.qasm_parse.proofs.Broken.{meets_same, only_meets}
use Rattle.qasm_parse.proofs.trying.cx_call.Goals as goal

pub returns-in_err-args : goal.returns-in_err-args
returns-in_err-args c =
    let x = c.args.source.now in
    let k = c.args.known in
    let p = err_from_is_err_and c.from_residual.result c.from_residual.ensures.1 in
    let means = all_meant x (quantum_named k) c.args.args.now in
    let e : first_fault (call_faults x k c.args.at cx c.args.args.now) ≡ first_fault (call_faults x k c.args.at c.cx.result c.args.args.now) =
    λ i. first_fault (call_faults x k c.args.at (sym c.cx.ensures i) c.args.args.now) in
    rw (p.1, p.2) (meets_same c.in_err-args.field-0.0 (call_faults x k c.args.at c.cx.result c.args.args.now) (call_faults x k c.args.at cx c.args.args.now) means (with_statement k (statements.Call (line_of x c.args.at) cx.gate means)) e c.in_err-args.ensures)

pub returns : goal.returns
returns c =
    let x = c.args.source.now in
    let k = c.args.known in
    let means = all_meant x (quantum_named k) c.args.args.now in
    let e : first_fault (call_faults x k c.args.at cx c.args.args.now) ≡ None =
    (λ i. first_fault (call_faults x k c.args.at (sym c.cx.ensures i) c.args.args.now)) ∙ c.in_ok-args.ensures.0 in
    only_meets c.added.result (with_statement k (statements.Call c.line.result c.cx-2.result.gate c.in_ok-args.args)) (with_statement k (statements.Call (line_of x c.args.at) cx.gate means)) (call_faults x k c.args.at cx c.args.args.now) e
    (λ i. with_statement k (statements.Call (c.line.ensures i) (c.cx-2.ensures i).gate (c.in_ok-args.ensures.1 i))) c.added.ensures
