use Rattle.std.proofs.Common.{◌≡◌, take, map, slice_index}
use Rattle.qasm_expand.proofs.push.put_actuals.Given as goal

abbrev pub invariant-loop-formal : goal.invariant-loop-formal
invariant-loop-formal l = l.into.items ≡ map (slice_index l.qubits) (take l.formal-index l.formals)
