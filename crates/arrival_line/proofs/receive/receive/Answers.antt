use Rattle.std.proofs.Common.{◌∙◌}
use Rattle.arrival_line.proofs.Receives.{ended_none, none_kept, one_kept, delivers_at, delivers_short}
use Rattle.arrival_line.proofs.receive.receive.Goals as goal

pub returns-in-Err-clause-delivers : goal.returns-in-Err-clause-delivers
returns-in-Err-clause-delivers g c =
    delivers_short _ _ _ _ _ _ _ _ _ _ c.loop.invariant.kept c.in-Came.ensures.came c.drop_rest-pass.ensures.more.1 c.in-Err.ensures.err c.loop.invariant.since.delivers

pub loop-preserved-in_default : goal.loop-preserved-in_default
loop-preserved-in_default g c = record {
  seat = c.ask.ensures.seat;
  role = c.ask.ensures.role;
  kept = one_kept _ _ _ _ _ c.loop.invariant.kept c.in-Came.ensures.came c.in_default.ensures.kept;
  key = c.in_default.ensures.key ∙ c.loop.invariant.key;
  since = c.in_default.ensures.goes_on _ _ c.loop.invariant.since;
}

pub loop-preserved : goal.loop-preserved
loop-preserved g c = record {
  seat = c.ask.ensures.seat;
  role = c.ask.ensures.role;
  kept = none_kept _ _ _ _ c.loop.invariant.kept c.in-Nothing.ensures.came c.try_one.ensures.kept;
  key = c.try_one.ensures.key ∙ c.loop.invariant.key;
  since = c.try_one.ensures.goes_on _ _ c.loop.invariant.since;
}

pub returns-in-Ended-clause-delivers : goal.returns-in-Ended-clause-delivers
returns-in-Ended-clause-delivers g c =
    let none = ended_none _ _ _ c.ask.ensures.came c.in-Ended.is in
    delivers_at _ _ _ _ _ (none_kept _ _ _ _ c.loop.invariant.kept none c.finish.ensures.kept) (c.finish.ensures.goes_on _ _ c.loop.invariant.since).delivers
