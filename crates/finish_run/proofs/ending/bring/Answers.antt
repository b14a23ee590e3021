-- The three parts go on from one another.
use Rattle.std.proofs.Common.{length}
use Rattle.board_core.specs.Position.{past}
use Rattle.finish_run.specs.inside.Finished.{DoneBelow}
use Rattle.finish_run.specs.Next.{never}
use Rattle.finish_run.proofs.Onward.{goes_any, goes_more}
use Rattle.finish_run.proofs.Carried.{outcomes_same}
use Rattle.finish_run.proofs.Completing.{done_same}
use Rattle.finish_run.proofs.Rest.{on_ok}
use Rattle.finish_run.proofs.ending.bring.Goals as goal

pub returns-in_err-deliver_claimed-clause-goes : goal.returns-in_err-deliver_claimed-clause-goes
returns-in_err-deliver_claimed-clause-goes g c = goes_any g.P.Planner.meets c.args.given.now c.args.board.now c.deliver_claimed.new.board c.deliver_claimed.ensures.goes

pub returns-in_err-release_delivered-clause-goes : goal.returns-in_err-release_delivered-clause-goes
returns-in_err-release_delivered-clause-goes g c =
    goes_any g.P.Planner.meets c.args.given.now c.args.board.now c.release_delivered.new.board
    (goes_more never c.args.given.now c.args.board.now c.deliver_claimed.new.board c.release_delivered.new.board c.deliver_claimed.ensures.goes (c.release_delivered.ensures.goes c.args.given.now))

pub carry_out_rest-requires-clause-outcomes : goal.carry_out_rest-requires-clause-outcomes
carry_out_rest-requires-clause-outcomes g c =
    outcomes_same c.args.board.now c.release_delivered.new.board c.args.given.now
    (goes_more never c.args.given.now c.args.board.now c.deliver_claimed.new.board c.release_delivered.new.board c.deliver_claimed.ensures.goes (c.release_delivered.ensures.goes c.args.given.now))
    c.requires

pub returns-clause-goes : goal.returns-clause-goes
returns-clause-goes g c =
    goes_more g.P.Planner.meets c.args.given.now c.args.board.now c.release_delivered.new.board c.carry_out_rest.new.board
    (goes_any g.P.Planner.meets c.args.given.now c.args.board.now c.release_delivered.new.board
    (goes_more never c.args.given.now c.args.board.now c.deliver_claimed.new.board c.release_delivered.new.board c.deliver_claimed.ensures.goes (c.release_delivered.ensures.goes c.args.given.now)))
    c.carry_out_rest.ensures.goes

pub returns-clause-done : goal.returns-clause-done
returns-clause-done g c =
    on_ok c.carry_out_rest.result (DoneBelow (past c.carry_out_rest.new.board) (length c.release_delivered.new.board.job.products)) (DoneBelow (past c.carry_out_rest.new.board) (length c.args.board.now.job.products))
    (λ d. done_same never c.args.given.now c.args.board.now c.release_delivered.new.board (past c.carry_out_rest.new.board)
    (goes_more never c.args.given.now c.args.board.now c.deliver_claimed.new.board c.release_delivered.new.board c.deliver_claimed.ensures.goes (c.release_delivered.ensures.goes c.args.given.now)) d)
    c.carry_out_rest.ensures.done
