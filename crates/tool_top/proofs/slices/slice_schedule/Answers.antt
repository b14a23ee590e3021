use Rattle.std.proofs.Common.{Ok, Err}
use Rattle.tool_words.specs.Commands as tool
use Rattle.fault_lines.specs.Sinks.{writing}
use Rattle.job_read.specs.Shelves.{shelved}
use Rattle.tool_top.proofs.Accepting.{done_write}
use Rattle.tool_top.proofs.Ending.{stopped_ends}
use Rattle.tool_top.proofs.Replaying.{slices_attempt}
use Rattle.tool_top.proofs.slices.slice_schedule.Goals as goal

pub returns-clause-ends : goal.returns-clause-ends
returns-clause-ends g c =
    slices_attempt
    (shelved g.S.Shelf.tells g.S.Shelf.faults c.args.shelf.now c.read_schedule.new.shelf)
    (writing g.O.Sink.taken g.O.Sink.faults c.args.out.now c.write_board_slices.new.out)
    c.args.names.circuit.now c.args.names.layout.now c.args.names.outcomes.now c.args.names.schedule.now
    c.in_ok-replayed.replayed (Ok tt) c.in_ok-replayed.ensures.replayed c.in_ok-write_board_slices.ensures.written

pub returns-in_err-write_board_slices-clause-ends : goal.returns-in_err-write_board_slices-clause-ends
returns-in_err-write_board_slices-clause-ends g c =
    let r = shelved g.S.Shelf.tells g.S.Shelf.faults c.args.shelf.now c.read_schedule.new.shelf in
    let w = writing g.O.Sink.taken g.O.Sink.faults c.args.out.now c.write_board_slices.new.out in
    let f = c.in_err-write_board_slices.field-0.0 in
    stopped_ends r w (tool.slices c.args.names.circuit.now c.args.names.layout.now c.args.names.outcomes.now c.args.names.schedule.now) f c.from_residual-in_err-write_board_slices.result c.from_residual-in_err-write_board_slices.ensures.1
    (slices_attempt r w c.args.names.circuit.now c.args.names.layout.now c.args.names.outcomes.now c.args.names.schedule.now
    c.in_ok-replayed.replayed (Err f) c.in_ok-replayed.ensures.replayed c.in_err-write_board_slices.ensures.written)

pub returns-in_err-write_board_slices-clause-complete : goal.returns-in_err-write_board_slices-clause-complete
returns-in_err-write_board_slices-clause-complete g c = λ a.
    done_write c.from_residual-in_err-write_board_slices.result c.in_err-write_board_slices.field-0.0 c.from_residual-in_err-write_board_slices.ensures.1
