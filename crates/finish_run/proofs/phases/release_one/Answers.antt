-- The least product that is delivered and not released is released.
use Rattle.std.proofs.Common.{refl}
use Rattle.finish_run.specs.Next.{never}
use Rattle.finish_run.proofs.Pending.{one_released, released_below, released_pending}
use Rattle.finish_run.proofs.phases.release_one.Goals as goal

pub returns-in_ok-node-clause-goes : goal.returns-in_ok-node-clause-goes
returns-in_ok-node-clause-goes c = λ given.
    one_released never given c.args.board.now c.release.new.board c.args.p c.requires.none (c.if-is_unreleased.ensures.unreleased.0 refl, c.requires.below) c.release.ensures.released

pub returns-in_ok-node-clause-none : goal.returns-in_ok-node-clause-none
returns-in_ok-node-clause-none c = released_pending c.args.board.now c.release.new.board c.args.p c.release.ensures.released c.requires.none

pub returns-in_ok-node-clause-below : goal.returns-in_ok-node-clause-below
returns-in_ok-node-clause-below c = released_below c.args.board.now c.release.new.board c.args.p c.release.ensures.released c.requires.below
