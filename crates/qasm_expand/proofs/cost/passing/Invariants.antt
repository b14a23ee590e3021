use Rattle.qasm_expand.proofs.Limits.{Passing}
use Rattle.qasm_expand.proofs.cost.passing.Given as goal

abbrev pub invariant-loop-statement : goal.invariant-loop-statement
invariant-loop-statement l = Passing l.known l.statements l.statement-index l.total
