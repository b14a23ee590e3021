use Rattle.std.proofs.Common.{◌≡◌, take, map}
use Rattle.qasm_parse.specs.Faults.{at_index}
use Rattle.qasm_expand.proofs.push.put_all_at.Given as goal

abbrev pub invariant-loop-arg : goal.invariant-loop-arg
invariant-loop-arg l = l.into.items ≡ map (at_index l.i) (take l.arg-index l.args)
