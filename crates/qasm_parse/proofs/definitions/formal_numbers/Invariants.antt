use Rattle.std.proofs.Common.{take}
use Rattle.qasm_parse.proofs.Formals.{Numbered}
use Rattle.qasm_parse.proofs.definitions.formal_numbers.Given as goal

abbrev pub invariant-loop-arg : goal.invariant-loop-arg
invariant-loop-arg l = Numbered l.source l.names (take l.arg-index l.args) l.numbers
