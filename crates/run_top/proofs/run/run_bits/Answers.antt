use Rattle.std.proofs.Common.{Ok, Err}
use Rattle.tool_words.specs.Commands as words
use Rattle.fault_lines.specs.Sinks.{writing}
use Rattle.job_read.specs.Reading.{reading}
use Rattle.job_read.specs.Shelves.{shelved}
use Rattle.run_top.specs.declared.fault.RunFault.{RunFault}
use Rattle.run_top.specs.inside.Told.{EndsBy}
use Rattle.run_top.proofs.Asking.{by_job, ends_by}
use Rattle.run_top.proofs.Ending.{bits_attempt, done_job, done_write, stopped_ends}
use Rattle.run_top.proofs.run.run_bits.Goals as goal

pub returns-clause-ends : goal.returns-clause-ends
returns-clause-ends g c =
    bits_attempt
    (shelved g.S.Shelf.tells g.S.Shelf.faults c.args.shelf.now c.read_job.new.shelf)
    (writing g.O.Sink.taken g.O.Sink.faults c.args.out.now c.write_board_bits.new.out)
    c.args.asked.circuit.now c.args.asked.layout.now c.args.asked.outcomes.now c.args.asked.k c.in_ok-job.job c.in_ok-done.done.circuit c.in_ok-done.done.board (Ok tt)
    c.in_ok-job.ensures.accepted c.in_ok-job.ensures.kept c.in_ok-done.ensures.circuit c.in_ok-done.ensures.board c.in_ok-write_board_bits.ensures.written

pub returns-in_err-write_board_bits-clause-ends : goal.returns-in_err-write_board_bits-clause-ends
returns-in_err-write_board_bits-clause-ends g c =
    let r = shelved g.S.Shelf.tells g.S.Shelf.faults c.args.shelf.now c.read_job.new.shelf in
    let w = writing g.O.Sink.taken g.O.Sink.faults c.args.out.now c.write_board_bits.new.out in
    let f = c.in_err-write_board_bits.field-0.0 in
    stopped_ends r w (words.bits c.args.asked.circuit.now c.args.asked.layout.now c.args.asked.outcomes.now c.args.asked.k) f c.from_residual-in_err-write_board_bits.result c.from_residual-in_err-write_board_bits.ensures.1
    (bits_attempt r w c.args.asked.circuit.now c.args.asked.layout.now c.args.asked.outcomes.now c.args.asked.k c.in_ok-job.job c.in_ok-done.done.circuit c.in_ok-done.done.board (Err f)
    c.in_ok-job.ensures.accepted c.in_ok-job.ensures.kept c.in_ok-done.ensures.circuit c.in_ok-done.ensures.board c.in_err-write_board_bits.ensures.written)

pub returns-in_err-job-clause-complete : goal.returns-in_err-job-clause-complete
returns-in_err-job-clause-complete g c = λ a.
    done_job c.from_residual.result c.in_err-job.field-0.0 c.from_residual.ensures.1 (c.in_err-job.ensures.exact a.0 a.1 a.2)

pub returns-in_err-write_board_bits-clause-complete : goal.returns-in_err-write_board_bits-clause-complete
returns-in_err-write_board_bits-clause-complete g c = λ a.
    done_write c.from_residual-in_err-write_board_bits.result c.in_err-write_board_bits.field-0.0 c.from_residual-in_err-write_board_bits.ensures.1

pub returns-in_err-job-clause-refuses : goal.returns-in_err-job-clause-refuses
returns-in_err-job-clause-refuses g c = λ f x.
    let end = c.from_residual.result in
    by_job (λ (h : RunFault). EndsBy h end) (reading (g.S.Shelf.tells c.args.shelf.now) (g.S.Shelf.faults c.args.shelf.now) (g.S.Shelf.faults c.read_job.new.shelf) c.args.asked.circuit.now c.args.asked.layout.now c.args.asked.outcomes.now)
    (λ h told refused. ends_by c.in_err-job.field-0.0 h end c.from_residual.ensures.1 (c.in_err-job.ensures.faults h told refused))
    f x

pub returns-clause-refuses : goal.returns-clause-refuses
returns-clause-refuses g c = λ f x.
    absurd (by_job (λ (h : RunFault). ⊥) (reading (g.S.Shelf.tells c.args.shelf.now) (g.S.Shelf.faults c.args.shelf.now) (g.S.Shelf.faults c.read_job.new.shelf) c.args.asked.circuit.now c.args.asked.layout.now c.args.asked.outcomes.now)
    c.in_ok-job.ensures.faults f x)

pub returns-in_err-write_board_bits-clause-refuses : goal.returns-in_err-write_board_bits-clause-refuses
returns-in_err-write_board_bits-clause-refuses g c = λ f x.
    absurd (by_job (λ (h : RunFault). ⊥) (reading (g.S.Shelf.tells c.args.shelf.now) (g.S.Shelf.faults c.args.shelf.now) (g.S.Shelf.faults c.read_job.new.shelf) c.args.asked.circuit.now c.args.asked.layout.now c.args.asked.outcomes.now)
    c.in_ok-job.ensures.faults f x)
