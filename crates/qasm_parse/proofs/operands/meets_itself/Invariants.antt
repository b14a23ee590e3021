use Rattle.std.proofs.Common.{◌≡◌, drop}
use Rattle.qasm_parse.specs.Faults.{any_pair, meets}
use Rattle.qasm_parse.proofs.operands.meets_itself.Given as goal

abbrev pub invariant-loop-i : goal.invariant-loop-i
invariant-loop-i l = any_pair (meets l.times) (drop l.i l.args) ≡ any_pair (meets l.times) l.args
