use Rattle.std.proofs.Common.{◌≡◌, map, sym, ap, ◌∙◌}
use Rattle.std.proofs.lemmas.Result.{err_from_is_err_and}
use Rattle.qasm_parse.specs.declared.known.Called.{Called}
use Rattle.qasm_parse.specs.declared.tree.BodyOp.TheVariants as ops
use Rattle.qasm_parse.specs.Lexed.{word_at}
use Rattle.qasm_parse.specs.Gates.{cx}
use Rattle.qasm_parse.specs.Known.{gate_named}
use Rattle.qasm_parse.specs.Faults.{first_fault, body_call_faults, named_op_faults, formal_of}
use Rattle.qasm_parse.specs.Behind.{gate_of}
use Rattle.std.proofs.Common.{unwrap_or, Option}
use Rattle.qasm_parse.proofs.Broken.{named_known, unknown_meets, meets_same}
use Rattle.qasm_parse.proofs.definitions.named_op.Goals as goal

pub returns-in_err-called-clause-value : goal.returns-in_err-called-clause-value
returns-in_err-called-clause-value c =
    let p = err_from_is_err_and c.from_residual.result c.from_residual.ensures.1 in
    rw (p.1, p.2) (unknown_meets c.in_err-called.field-0.0 (gate_named c.args.known.now (word_at c.args.source.now c.args.name)) c.args.name (λ g. body_call_faults c.args.source.now c.args.names.now c.args.name g c.args.args.now) _ c.in_err-called.ensures)

pub returns-in_err-op-clause-value : goal.returns-in_err-op-clause-value
returns-in_err-op-clause-value c =
    let p = err_from_is_err_and c.from_residual-in_err-op.result c.from_residual-in_err-op.ensures.1 in
    let e = named_known (gate_named c.args.known.now (word_at c.args.source.now c.args.name)) c.args.name (λ g. body_call_faults c.args.source.now c.args.names.now c.args.name g c.args.args.now) c.in_ok-called.called c.in_ok-called.ensures in
    rw (p.1, p.2) (meets_same c.in_err-op.field-0.0 (body_call_faults c.args.source.now c.args.names.now c.args.name c.in_ok-called.called c.args.args.now) (named_op_faults c.args.source.now c.args.known.now c.args.names.now c.args.name c.args.args.now) _ _ (ap first_fault e) c.in_err-op.ensures.value)

pub returns-clause-value : goal.returns-clause-value
returns-clause-value c =
    let e = named_known (gate_named c.args.known.now (word_at c.args.source.now c.args.name)) c.args.name (λ g. body_call_faults c.args.source.now c.args.names.now c.args.name g c.args.args.now) c.in_ok-called.called c.in_ok-called.ensures in
    let g : c.in_ok-called.called ≡ gate_of c.args.source.now c.args.known.now c.args.name = ap (λ (o : Option Called). unwrap_or o cx) (sym c.in_ok-called.ensures) in
    let numbers = map (formal_of c.args.source.now c.args.names.now) c.args.args.now in
    let p : c.in_ok-op.op ≡ ops.Call (gate_of c.args.source.now c.args.known.now c.args.name).gate numbers = c.in_ok-op.ensures.value.1 ∙ ap (λ (h : Called). ops.Call h.gate numbers) g in
    (ap first_fault e ∙ c.in_ok-op.ensures.value.0, λ i. (p i, (g i).depth))
