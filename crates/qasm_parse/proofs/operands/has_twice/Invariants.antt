use Rattle.std.proofs.Common.{◌≡◌, drop, nat_eq}
use Rattle.qasm_parse.specs.Faults.{any_pair}
use Rattle.qasm_parse.proofs.operands.has_twice.Given as goal

abbrev pub invariant-loop-i : goal.invariant-loop-i
invariant-loop-i l = any_pair nat_eq (drop l.i l.numbers) ≡ any_pair nat_eq l.numbers
