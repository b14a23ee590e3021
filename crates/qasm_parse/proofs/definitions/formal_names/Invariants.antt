use Rattle.qasm_parse.proofs.Formals.{Fresh}
use Rattle.qasm_parse.proofs.definitions.formal_names.Given as goal

abbrev pub invariant-loop-formal : goal.invariant-loop-formal
invariant-loop-formal l = Fresh l.source l.formals l.formal-index l.names
