use Rattle.std.proofs.Common.{ℕ, List, subst}
use Rattle.patch_base.specs.Outside.{Grew, AppendsPrefix}
use Rattle.fault_lines.specs.Sinks.{writing}
use Rattle.board_write.specs.Boards.{schedule_of}
use Rattle.board_write.proofs.Written.{unwritten}
use Rattle.board_write.proofs.Scheduled.{same_schedule}
use Rattle.board_write.proofs.write.write_board.Goals as goal

pub returns-in_err-write_schedule-clause-written : goal.returns-in_err-write_schedule-clause-written
returns-in_err-write_schedule-clause-written g c = λ table is.
    let same = same_schedule c.args.circuit.now table c.args.board.now.history c.in_ok-bits.bits.items c.requires.circuit (c.in_ok-bits.ensures.bits table is.kinds is.complete) in
    let part = rw c.deref.ensures.value at c.in_err-write_schedule.ensures.prefix in
    unwritten
    (writing g.O.Sink.taken g.O.Sink.faults c.args.out.now c.write_schedule.new.out)
    (schedule_of c.args.circuit.now table c.args.board.now.history)
    c.from_residual-in_err-write_schedule.result c.from_residual-in_err-write_schedule.ensures.1
    (c.in_err-write_schedule.ensures.failed, subst (λ (text : List ℕ). AppendsPrefix (g.O.Sink.taken c.args.out.now) (g.O.Sink.taken c.write_schedule.new.out) text) same part)

pub returns-clause-written : goal.returns-clause-written
returns-clause-written g c = λ table is.
    let same = same_schedule c.args.circuit.now table c.args.board.now.history c.in_ok-bits.bits.items c.requires.circuit (c.in_ok-bits.ensures.bits table is.kinds is.complete) in
    let took = rw c.deref.ensures.value at c.in_ok-write_schedule.ensures.all in
    subst (λ (text : List ℕ). Grew (g.O.Sink.taken c.args.out.now) (g.O.Sink.taken c.write_schedule.new.out) text) same took
