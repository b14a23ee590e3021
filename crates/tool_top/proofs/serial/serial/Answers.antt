use Rattle.std.proofs.Common.{Ok, Err}
use Rattle.region_plan.specs.Answer.{LeastJoined}
use Rattle.tool_words.specs.Commands as tool
use Rattle.fault_lines.specs.Sinks.{writing}
use Rattle.job_read.specs.Reading.{reading}
use Rattle.job_read.specs.Shelves.{shelved}
use Rattle.tool_top.specs.declared.fault.ToolFault.{ToolFault}
use Rattle.tool_top.specs.inside.Told.{EndsBy}
use Rattle.tool_top.proofs.Accepting.{done_job, done_write}
use Rattle.tool_top.proofs.Ending.{stopped_ends}
use Rattle.tool_top.proofs.Refusing.{by_job, ends_by}
use Rattle.tool_top.proofs.Replaying.{scheduled}
use Rattle.tool_top.proofs.serial.serial.Goals as goal

pub returns-clause-ends : goal.returns-clause-ends
returns-clause-ends g c =
    scheduled LeastJoined
    (shelved g.S.Shelf.tells g.S.Shelf.faults c.args.shelf.now c.read_job.new.shelf)
    (writing g.O.Sink.taken g.O.Sink.faults c.args.out.now c.write_board.new.out)
    c.args.circuit.now c.args.layout.now c.args.outcomes.now (tool.serial c.args.circuit.now c.args.layout.now c.args.outcomes.now) c.in_ok-job.job c.in_ok-done.done.circuit c.in_ok-done.done.board (Ok tt) (λ text o. o)
    c.law_complete_boards.ensures c.in_ok-job.ensures.accepted c.in_ok-job.ensures.kept c.in_ok-done.ensures.circuit c.in_ok-done.ensures.board c.in_ok-write_board.ensures.written

pub returns-in_err-write_board-clause-ends : goal.returns-in_err-write_board-clause-ends
returns-in_err-write_board-clause-ends g c =
    let r = shelved g.S.Shelf.tells g.S.Shelf.faults c.args.shelf.now c.read_job.new.shelf in
    let w = writing g.O.Sink.taken g.O.Sink.faults c.args.out.now c.write_board.new.out in
    let f = c.in_err-write_board.field-0.0 in
    stopped_ends r w (tool.serial c.args.circuit.now c.args.layout.now c.args.outcomes.now) f c.from_residual-in_err-write_board.result c.from_residual-in_err-write_board.ensures.1
    (scheduled LeastJoined r w c.args.circuit.now c.args.layout.now c.args.outcomes.now (tool.serial c.args.circuit.now c.args.layout.now c.args.outcomes.now) c.in_ok-job.job c.in_ok-done.done.circuit c.in_ok-done.done.board (Err f) (λ text o. o)
    c.law_complete_boards.ensures c.in_ok-job.ensures.accepted c.in_ok-job.ensures.kept c.in_ok-done.ensures.circuit c.in_ok-done.ensures.board c.in_err-write_board.ensures.written)

pub returns-in_err-job-clause-complete : goal.returns-in_err-job-clause-complete
returns-in_err-job-clause-complete g c = λ a.
    done_job c.from_residual.result c.in_err-job.field-0.0 c.from_residual.ensures.1 (c.in_err-job.ensures.exact a.0 a.1 a.2)

pub returns-in_err-write_board-clause-complete : goal.returns-in_err-write_board-clause-complete
returns-in_err-write_board-clause-complete g c = λ a.
    done_write c.from_residual-in_err-write_board.result c.in_err-write_board.field-0.0 c.from_residual-in_err-write_board.ensures.1

pub returns-in_err-job-clause-refuses : goal.returns-in_err-job-clause-refuses
returns-in_err-job-clause-refuses g c = λ f x.
    let end = c.from_residual.result in
    by_job (λ (h : ToolFault). EndsBy h end) (reading (g.S.Shelf.tells c.args.shelf.now) (g.S.Shelf.faults c.args.shelf.now) (g.S.Shelf.faults c.read_job.new.shelf) c.args.circuit.now c.args.layout.now c.args.outcomes.now)
    (λ h told refused. ends_by c.in_err-job.field-0.0 h end c.from_residual.ensures.1 (c.in_err-job.ensures.faults h told refused))
    f x

pub returns-clause-refuses : goal.returns-clause-refuses
returns-clause-refuses g c = λ f x.
    absurd (by_job (λ (h : ToolFault). ⊥) (reading (g.S.Shelf.tells c.args.shelf.now) (g.S.Shelf.faults c.args.shelf.now) (g.S.Shelf.faults c.read_job.new.shelf) c.args.circuit.now c.args.layout.now c.args.outcomes.now)
    c.in_ok-job.ensures.faults f x)

pub returns-in_err-write_board-clause-refuses : goal.returns-in_err-write_board-clause-refuses
returns-in_err-write_board-clause-refuses g c = λ f x.
    absurd (by_job (λ (h : ToolFault). ⊥) (reading (g.S.Shelf.tells c.args.shelf.now) (g.S.Shelf.faults c.args.shelf.now) (g.S.Shelf.faults c.read_job.new.shelf) c.args.circuit.now c.args.layout.now c.args.outcomes.now)
    c.in_ok-job.ensures.faults f x)
