use Rattle.std.proofs.Common.{Ok, Err, ap, ◌∙◌}
use Rattle.tool_words.specs.Commands as words
use Rattle.fault_lines.specs.Sinks.{writing}
use Rattle.run_top.specs.Big.{heading}
use Rattle.run_top.proofs.Ending.{big_attempt, done_job, done_write, stopped_ends}
use Rattle.run_top.proofs.big.run_big.Goals as goal

pub returns-clause-ends : goal.returns-clause-ends
returns-clause-ends g c = λ r.
    big_attempt r
    (writing g.O.Sink.taken g.O.Sink.faults c.args.out.now c.write_board_bits.new.out)
    c.args.n c.args.k c.in_ok-job.job c.deref.result.now c.in_ok-done.done.circuit c.in_ok-done.done.board (Ok tt)
    c.in_ok-job.ensures.made c.in_ok-job.ensures.kept (c.deref.ensures.value ∙ c.in_ok-heading.ensures ∙ ap (heading c.args.n) c.as_slice.ensures)
    c.in_ok-done.ensures.circuit c.in_ok-done.ensures.board c.in_ok-write_board_bits.ensures.written

pub returns-in_err-write_board_bits-clause-ends : goal.returns-in_err-write_board_bits-clause-ends
returns-in_err-write_board_bits-clause-ends g c = λ r.
    let w = writing g.O.Sink.taken g.O.Sink.faults c.args.out.now c.write_board_bits.new.out in
    let f = c.in_err-write_board_bits.field-0.0 in
    stopped_ends r w (words.big c.args.n c.args.k) f c.from_residual-in_err-write_board_bits.result c.from_residual-in_err-write_board_bits.ensures.1
    (big_attempt r w c.args.n c.args.k c.in_ok-job.job c.deref.result.now c.in_ok-done.done.circuit c.in_ok-done.done.board (Err f)
    c.in_ok-job.ensures.made c.in_ok-job.ensures.kept (c.deref.ensures.value ∙ c.in_ok-heading.ensures ∙ ap (heading c.args.n) c.as_slice.ensures)
    c.in_ok-done.ensures.circuit c.in_ok-done.ensures.board c.in_err-write_board_bits.ensures.written)

pub returns-in_err-job-clause-complete : goal.returns-in_err-job-clause-complete
returns-in_err-job-clause-complete g c = λ r a.
    done_job c.from_residual.result c.in_err-job.field-0.0 c.from_residual.ensures.1 (c.in_err-job.ensures.exact a.0 a.1)

pub returns-in_err-write_board_bits-clause-complete : goal.returns-in_err-write_board_bits-clause-complete
returns-in_err-write_board_bits-clause-complete g c = λ r a.
    done_write c.from_residual-in_err-write_board_bits.result c.in_err-write_board_bits.field-0.0 c.from_residual-in_err-write_board_bits.ensures.1
