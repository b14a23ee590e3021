use Rattle.std.proofs.Common.{◌≡◌, drop}
use Rattle.qasm_parse.specs.Faults.{times}
use Rattle.qasm_expand.proofs.cost.times.Given as goal

abbrev pub invariant-loop-arg : goal.invariant-loop-arg
invariant-loop-arg l = times l.args ≡ times (drop l.arg-index l.args)
