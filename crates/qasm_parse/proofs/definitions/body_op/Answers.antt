use Rattle.qasm_parse.proofs.definitions.body_op.Goals as goal

pub returns-in-Call-clause-value : goal.returns-in-Call-clause-value
returns-in-Call-clause-value c = rw c.in-Call.is (rw c.as_slice.ensures at c.named_op.ensures.value)
