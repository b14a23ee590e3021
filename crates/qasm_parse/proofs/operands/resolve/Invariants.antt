use Rattle.std.proofs.Common.{take}
use Rattle.qasm_parse.specs.Known.{quantum_named}
use Rattle.qasm_parse.proofs.Arguments.{Resolved}
use Rattle.qasm_parse.proofs.operands.resolve.Given as goal

abbrev pub invariant-loop-arg : goal.invariant-loop-arg
invariant-loop-arg l = Resolved l.source (quantum_named l.known) (take l.arg-index l.args) l.past l.means
