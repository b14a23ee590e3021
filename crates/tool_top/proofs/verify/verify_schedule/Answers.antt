use Rattle.std.proofs.Common.{refl}
use Rattle.tool_words.specs.Commands as tool
use Rattle.tool_top.specs.declared.fault.ToolFault.TheVariants as fault
use Rattle.fault_lines.specs.Sinks.{writing}
use Rattle.job_read.specs.Shelves.{shelved}
use Rattle.tool_top.specs.Schedules.{verdict}
use Rattle.tool_top.proofs.Accepting.{done_for}
use Rattle.tool_top.proofs.Ending.{unwritten_ends}
use Rattle.tool_top.proofs.verify.verify_schedule.Goals as goal

pub returns-in_err-write_all-clause-complete : goal.returns-in_err-write_all-clause-complete
returns-in_err-write_all-clause-complete g c = λ a.
    done_for c.from_residual-in_err-write_all.result fault.Unwritten c.from_residual-in_err-write_all.ensures.1 tt

pub returns-in_err-write_all-clause-ends : goal.returns-in_err-write_all-clause-ends
returns-in_err-write_all-clause-ends g c =
    let read = c.in_ok-_replayed.ensures.replayed in
    let w = writing g.O.Sink.taken g.O.Sink.faults c.args.out.now c.write_all.new.out in
    unwritten_ends
    (shelved g.S.Shelf.tells g.S.Shelf.faults c.args.shelf.now c.read_schedule.new.shelf) w
    (tool.verify c.args.names.circuit.now c.args.names.layout.now c.args.names.outcomes.now c.args.names.schedule.now) verdict c.from_residual-in_err-write_all.result c.from_residual-in_err-write_all.ensures.1
    (read.job, read.stands, (read.version, c.in_ok-_replayed._replayed.board.history, read.schedule, refl))
    (c.in_err-write_all.ensures.failed, c.in_err-write_all.ensures.prefix)
