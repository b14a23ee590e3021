use Rattle.qasm_parse.proofs.trying.try_sentence.Goals as goal

pub returns-in-Gate : goal.returns-in-Gate
returns-in-Gate c = rw c.in-Gate.is (rw (c.as_slice.ensures, c.as_slice-in-Gate.ensures) at c.define.ensures)

pub returns-in-Cx : goal.returns-in-Cx
returns-in-Cx c = rw c.in-Cx.is (rw c.as_slice-in-Cx.ensures at c.cx_call.ensures)
