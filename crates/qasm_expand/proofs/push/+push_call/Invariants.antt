use Rattle.std.proofs.Common.{◌≡◌, ◌++◌, take}
use Rattle.std.specs.List.{flat_map}
use Rattle.qasm_expand.specs.Flats.{body_flats, calls_of}
use Rattle.qasm_expand.proofs.Calls.{rank}
use Rattle.qasm_expand.proofs.push.+push_call.Given as goal

abbrev pub decreases-push_call : goal.decreases-push_call
decreases-push_call l = rank l.gate

abbrev pub invariant-loop-op : goal.invariant-loop-op
invariant-loop-op l = l.flats.items ≡ l.fn.flats.items ++ flat_map (body_flats (calls_of l.gates) l.qubits) (take l.op-index l.op-items)
