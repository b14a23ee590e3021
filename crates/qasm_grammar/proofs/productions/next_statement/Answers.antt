use Rattle.std.proofs.Common.{sym}
use Rattle.qasm_grammar.proofs.Steps.{goes_along}
use Rattle.qasm_grammar.proofs.Starts.{statement_include, statement_qreg, statement_creg, statement_named_call, statement_cx_call, statement_measure, statement_barrier, statement_reset, statement_gate, statement_if_equal, statement_opaque, statement_taken, statement_none}
use Rattle.qasm_grammar.proofs.productions.next_statement.Goals as goal

pub returns-then-is_next-clause-form : goal.returns-then-is_next-clause-form
returns-then-is_next-clause-form c = λ k r. goes_along _ _ k _ _ _ (statement_include k _ _ (sym c.if-is_next.ensures)) (c.include.ensures.form k r)

pub returns-then-is_next-2-clause-form : goal.returns-then-is_next-2-clause-form
returns-then-is_next-2-clause-form c = λ k r. goes_along _ _ k _ _ _ (statement_qreg k _ _ (sym c.if-is_next-2.ensures)) (c.qreg.ensures.form k r)

pub returns-then-is_next-3-clause-form : goal.returns-then-is_next-3-clause-form
returns-then-is_next-3-clause-form c = λ k r. goes_along _ _ k _ _ _ (statement_creg k _ _ (sym c.if-is_next-3.ensures)) (c.creg.ensures.form k r)

pub returns-then-is_next-4-clause-form : goal.returns-then-is_next-4-clause-form
returns-then-is_next-4-clause-form c = λ k r. goes_along _ _ k _ _ _ (statement_named_call k _ _ (sym c.if-is_next-4.ensures)) (c.named_call.ensures.form k r)

pub returns-then-is_next-5-clause-form : goal.returns-then-is_next-5-clause-form
returns-then-is_next-5-clause-form c = λ k r. goes_along _ _ k _ _ _ (statement_cx_call k _ _ (sym c.if-is_next-5.ensures)) (c.cx_call.ensures.form k r)

pub returns-then-is_next-6-clause-form : goal.returns-then-is_next-6-clause-form
returns-then-is_next-6-clause-form c = λ k r. goes_along _ _ k _ _ _ (statement_measure k _ _ (sym c.if-is_next-6.ensures)) (c.measure.ensures.form k r)

pub returns-then-is_next-7-clause-form : goal.returns-then-is_next-7-clause-form
returns-then-is_next-7-clause-form c = λ k r. goes_along _ _ k _ _ _ (statement_barrier k _ _ (sym c.if-is_next-7.ensures)) (c.barrier.ensures.form k r)

pub returns-then-is_next-8-clause-form : goal.returns-then-is_next-8-clause-form
returns-then-is_next-8-clause-form c = λ k r. goes_along _ _ k _ _ _ (statement_reset k _ _ (sym c.if-is_next-8.ensures)) (c.reset.ensures.form k r)

pub returns-then-is_next-9-clause-form : goal.returns-then-is_next-9-clause-form
returns-then-is_next-9-clause-form c = λ k r. goes_along _ _ k _ _ _ (statement_gate k _ _ (sym c.if-is_next-9.ensures)) (c.gate.ensures.form k r)

pub returns-then-is_next-10-clause-form : goal.returns-then-is_next-10-clause-form
returns-then-is_next-10-clause-form c = λ k r. goes_along _ _ k _ _ _ (statement_if_equal k _ _ (sym c.if-is_next-10.ensures)) (c.if_equal.ensures.form k r)

pub returns-then-is_next-11-clause-form : goal.returns-then-is_next-11-clause-form
returns-then-is_next-11-clause-form c = λ k r. statement_opaque k _ _ (sym c.if-is_next-11.ensures)

pub returns-then-is_next-12-clause-form : goal.returns-then-is_next-12-clause-form
returns-then-is_next-12-clause-form c = λ k r. statement_taken k _ _ (sym c.if-is_next-12.ensures)

pub returns-clause-form : goal.returns-clause-form
returns-clause-form c = λ k r. statement_none k _ _ (sym c.if-is_next.ensures) (sym c.if-is_next-2.ensures) (sym c.if-is_next-3.ensures) (sym c.if-is_next-4.ensures) (sym c.if-is_next-5.ensures) (sym c.if-is_next-6.ensures) (sym c.if-is_next-7.ensures) (sym c.if-is_next-8.ensures) (sym c.if-is_next-9.ensures) (sym c.if-is_next-10.ensures) (sym c.if-is_next-11.ensures) (sym c.if-is_next-12.ensures)
