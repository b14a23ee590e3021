-- After a run it is the same product's turn, and the look is still one for this board.
use Rattle.std.proofs.Common.{[]}
use Rattle.finish_run.specs.Next.{never}
use Rattle.finish_run.proofs.Onward.{goes_job, goes_more}
use Rattle.finish_run.proofs.Stepping.{made_same, wants_state}
use Rattle.finish_run.proofs.making.prepare.Goals as goal

pub run-requires-clause-wants : goal.run-requires-clause-wants
run-requires-clause-wants c =
    (c.args.p, wants_state c.loop-alloc.board c.args.p c.show.new.look c.loop-alloc.invariant.legal c.show.ensures.shown (c.lacks_state.ensures.0 c.if-not-lacks_state.false))

pub loop-alloc-preserved : goal.loop-alloc-preserved
loop-alloc-preserved c = record {
  goes = λ given. goes_more never given c.args.board.now c.loop-alloc.board c.run.new.board (c.loop-alloc.invariant.goes given) (c.in_ok-run.ensures.goes given);
  legal = c.in_ok-run.ensures.legal;
  made = made_same c.loop-alloc.board c.run.new.board c.show.new.look (goes_job never [] c.loop-alloc.board c.run.new.board (c.in_ok-run.ensures.goes [])) c.show.ensures.made;
  turn = c.in_ok-run.ensures.turn c.args.p c.loop-alloc.invariant.turn;
}

pub returns-in_err-run-clause-goes : goal.returns-in_err-run-clause-goes
returns-in_err-run-clause-goes c = λ given. goes_more never given c.args.board.now c.loop-alloc.board c.run.new.board (c.loop-alloc.invariant.goes given) (c.in_err-run.ensures.goes given)

pub returns-in_err-run-clause-made : goal.returns-in_err-run-clause-made
returns-in_err-run-clause-made c =
    made_same c.loop-alloc.board c.run.new.board c.show.new.look (goes_job never [] c.loop-alloc.board c.run.new.board (c.in_err-run.ensures.goes [])) c.show.ensures.made
