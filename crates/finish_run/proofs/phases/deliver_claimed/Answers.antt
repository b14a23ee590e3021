-- All claimed products were passed.
use Rattle.std.proofs.Common.{arith}
use Rattle.finish_run.specs.Next.{never}
use Rattle.finish_run.proofs.Onward.{goes_more}
use Rattle.finish_run.proofs.Pending.{few_outcomes, none_pending}
use Rattle.finish_run.proofs.phases.deliver_claimed.Goals as goal

pub overflow_cast-p-end : goal.overflow_cast-p-end
overflow_cast-p-end c = let few = few_outcomes c.args.board.now c.args.given.now c.requires.legal c.requires.outcomes in omega (arith, few)

pub returns-in_err-deliver_one-clause-goes : goal.returns-in_err-deliver_one-clause-goes
returns-in_err-deliver_one-clause-goes c = goes_more never c.args.given.now c.args.board.now c.loop-p.board c.deliver_one.new.board c.loop-p.invariant.goes c.in_err-deliver_one.ensures.goes

pub loop-p-preserved : goal.loop-p-preserved
loop-p-preserved c = record {
  goes = goes_more never c.args.given.now c.args.board.now c.loop-p.board c.deliver_one.new.board c.loop-p.invariant.goes c.in_ok-deliver_one.ensures.goes;
  legal = c.in_ok-deliver_one.ensures.legal;
  below = c.in_ok-deliver_one.ensures.below;
}

pub returns-clause-none : goal.returns-clause-none
returns-clause-none c =
    none_pending never c.args.given.now c.args.board.now c.loop-p.board c.loop-p.p c.loop-p.invariant.goes c.loop-p.invariant.legal c.requires.outcomes c.loop-p-test.false c.loop-p.invariant.below
