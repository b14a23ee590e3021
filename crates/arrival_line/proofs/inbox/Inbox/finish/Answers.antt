use Rattle.std.proofs.Common.{◌∙◌}
use Rattle.arrival_line.proofs.inbox.Inbox.finish.Goals as goal

pub loop-preserved : goal.loop-preserved
loop-preserved g c = record {
  key = c.try_one.ensures.key ∙ c.loop.invariant.key;
  kept = c.try_one.ensures.kept ∙ c.loop.invariant.kept;
  goes_on = λ w m h. c.try_one.ensures.goes_on w m (c.loop.invariant.goes_on w m h);
}
