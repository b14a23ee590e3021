use Rattle.std.proofs.Common.{Ok, Err, map, string_bytes}
use Rattle.tool_words.specs.Commands as words
use Rattle.fault_lines.specs.Sinks.{writing}
use Rattle.job_read.specs.Shelves.{shelved}
use Rattle.run_top.proofs.Ending.{done_write, side_attempt, stopped_ends}
use Rattle.run_top.proofs.side.run_side.Goals as goal

pub returns-clause-ends : goal.returns-clause-ends
returns-clause-ends g c =
    side_attempt
    (shelved g.S.Shelf.tells g.S.Shelf.faults c.args.shelf.now c.read_sides.new.shelf)
    (writing g.O.Sink.taken g.O.Sink.faults c.args.out.now c.write_board.new.out)
    c.args.layout.now c.args.k (map string_bytes c.args.pairs.now) c.in_ok-job.job c.in_ok-done.done.circuit c.in_ok-done.done.board (Ok tt)
    c.law_complete_boards.ensures c.law_claims.ensures c.law_alone.ensures.registers c.in_ok-job.ensures.read c.in_ok-done.ensures.circuit c.in_ok-done.ensures.board c.in_ok-write_board.ensures.written

pub returns-in_err-write_board-clause-ends : goal.returns-in_err-write_board-clause-ends
returns-in_err-write_board-clause-ends g c =
    let r = shelved g.S.Shelf.tells g.S.Shelf.faults c.args.shelf.now c.read_sides.new.shelf in
    let w = writing g.O.Sink.taken g.O.Sink.faults c.args.out.now c.write_board.new.out in
    let f = c.in_err-write_board.field-0.0 in
    let names = map string_bytes c.args.pairs.now in
    stopped_ends r w (words.side c.args.layout.now c.args.k names) f c.from_residual-in_err-write_board.result c.from_residual-in_err-write_board.ensures.1
    (side_attempt r w c.args.layout.now c.args.k names c.in_ok-job.job c.in_ok-done.done.circuit c.in_ok-done.done.board (Err f)
    c.law_complete_boards.ensures c.law_claims.ensures c.law_alone.ensures.registers c.in_ok-job.ensures.read c.in_ok-done.ensures.circuit c.in_ok-done.ensures.board c.in_err-write_board.ensures.written)

pub returns-in_err-write_board-clause-complete : goal.returns-in_err-write_board-clause-complete
returns-in_err-write_board-clause-complete g c = λ a.
    done_write c.from_residual-in_err-write_board.result c.in_err-write_board.field-0.0 c.from_residual-in_err-write_board.ensures.1

pub returns-clause-refuses : goal.returns-clause-refuses
returns-clause-refuses g c = λ f x. absurd (c.in_ok-job.ensures.faults f x)

pub returns-in_err-write_board-clause-refuses : goal.returns-in_err-write_board-clause-refuses
returns-in_err-write_board-clause-refuses g c = λ f x. absurd (c.in_ok-job.ensures.faults f x)
