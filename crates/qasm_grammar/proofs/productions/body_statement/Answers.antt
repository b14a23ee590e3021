use Rattle.std.proofs.Common.{sym}
use Rattle.qasm_grammar.proofs.Steps.{goes_along}
use Rattle.qasm_grammar.proofs.Starts.{body_body_call, body_body_cx, body_body_barrier, body_opaque, body_taken, body_none}
use Rattle.qasm_grammar.proofs.productions.body_statement.Goals as goal

pub returns-then-is_next-clause-form : goal.returns-then-is_next-clause-form
returns-then-is_next-clause-form c = λ k r. goes_along _ _ k _ _ _ (body_body_call k _ _ (sym c.if-is_next.ensures)) (c.body_call.ensures.form k r)

pub returns-then-is_next-2-clause-form : goal.returns-then-is_next-2-clause-form
returns-then-is_next-2-clause-form c = λ k r. goes_along _ _ k _ _ _ (body_body_cx k _ _ (sym c.if-is_next-2.ensures)) (c.body_cx.ensures.form k r)

pub returns-then-is_next-3-clause-form : goal.returns-then-is_next-3-clause-form
returns-then-is_next-3-clause-form c = λ k r. goes_along _ _ k _ _ _ (body_body_barrier k _ _ (sym c.if-is_next-3.ensures)) (c.body_barrier.ensures.form k r)

pub returns-then-is_next-4-clause-form : goal.returns-then-is_next-4-clause-form
returns-then-is_next-4-clause-form c = λ k r. body_opaque k _ _ (sym c.if-is_next-4.ensures)

pub returns-then-is_next-5-clause-form : goal.returns-then-is_next-5-clause-form
returns-then-is_next-5-clause-form c = λ k r. body_taken k _ _ (sym c.if-is_next-5.ensures)

pub returns-clause-form : goal.returns-clause-form
returns-clause-form c = λ k r. body_none k _ _ (sym c.if-is_next.ensures) (sym c.if-is_next-2.ensures) (sym c.if-is_next-3.ensures) (sym c.if-is_next-4.ensures) (sym c.if-is_next-5.ensures)
