-- All delivered products were passed.
use Rattle.std.proofs.Common.{◌≤◌, List, [], length, subst}
use Rattle.source_model.specs.declared.Static.{Static}
use Rattle.finish_run.specs.Next.{never}
use Rattle.finish_run.proofs.Onward.{goes_more}
use Rattle.finish_run.proofs.Pending.{none_unreleased}
use Rattle.finish_run.proofs.phases.release_delivered.Goals as goal

pub returns-in_err-release_one-clause-goes : goal.returns-in_err-release_one-clause-goes
returns-in_err-release_one-clause-goes c = λ given. goes_more never given c.args.board.now c.loop-p.board c.release_one.new.board (c.loop-p.invariant.goes given) (c.in_err-release_one.ensures.goes given)

pub loop-p-preserved : goal.loop-p-preserved
loop-p-preserved c = record {
  goes = λ given. goes_more never given c.args.board.now c.loop-p.board c.release_one.new.board (c.loop-p.invariant.goes given) (c.in_ok-release_one.ensures.goes given);
  legal = c.in_ok-release_one.ensures.legal;
  none = c.in_ok-release_one.ensures.none;
  below = c.in_ok-release_one.ensures.below;
}

pub returns-clause-idle : goal.returns-clause-idle
returns-clause-idle c = (
  c.loop-p.invariant.none,
  none_unreleased never [] c.args.board.now c.loop-p.board c.loop-p.p (c.loop-p.invariant.goes []) c.loop-p.invariant.legal
      (subst (λ (l : List Static). length l ≤ c.loop-p.p) c.products.ensures c.loop-p-test.false) c.loop-p.invariant.below,
)
