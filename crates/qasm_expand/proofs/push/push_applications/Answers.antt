use Rattle.std.proofs.Common.{ℕ, ◌≤◌, ◌+◌, List, ◌++◌, ap, ◌∙◌, arith}
use Rattle.qasm_parse.specs.Faults.{times}
use Rattle.qasm_expand.specs.declared.flat.Flat.{Flat}
use Rattle.qasm_expand.specs.Flats.{called, applied, calls_of}
use Rattle.qasm_expand.proofs.Steps.{flat_index_more}
use Rattle.qasm_expand.proofs.Within.{times_within}
use Rattle.qasm_expand.proofs.push.push_applications.Goals as goal

pub put_all_at-requires-clause-small : goal.put_all_at-requires-clause-small
put_all_at-requires-clause-small c =
    let most : times c.args.args.now ≤ 16384 + 1 = times_within 16384 c.args.args.now c.requires.within in
    omega arith

pub loop-i-preserved : goal.loop-i-preserved
loop-i-preserved c =
    let i : ℕ = c.loop-i.i in
    let f : ℕ → List Flat = applied (calls_of c.args.gates.now) c.args.gate c.args.args.now in
    let qubits = c.deref.ensures.value ∙ c.in_ok-put_all_at.ensures in
    let pushed = c.in_ok-push_call.ensures in
    pushed
    ∙ ap (λ qs. c.loop-i.flats.items ++ called (calls_of c.args.gates.now) c.args.gate qs) qubits
    ∙ ap (λ xs. xs ++ f i) c.loop-i.invariant
    ∙ flat_index_more f c.args.flats.now.items i
