use Rattle.arrival_line.proofs.Feeds.{may_send, may_receive}
use Rattle.arrival_line.proofs.Gathers.{taken_role, taken_one, taken_end}
use Rattle.arrival_line.proofs.Lines.{takes, rests}
use Rattle.arrival_line.proofs.gather.drain.Goals as goal

pub try_recv_as-requires-clause-rule : goal.try_recv_as-requires-clause-rule
try_recv_as-requires-clause-rule g c =
    let is = c.loop.invariant.role in (takes _ _ (may_receive _ _ _ _ is), rests _ _ (may_send _ _ _ _ is) (may_receive _ _ _ _ is))

pub loop-preserved-in-Continue-1 : goal.loop-preserved-in-Continue-1
loop-preserved-in-Continue-1 g c = record {
  seat = c.try_recv_as.ensures.channel.0;
  role = taken_role _ _ _ c.in-Ok-Arrived.ensures.rule _ c.loop.invariant.role;
  kept = taken_one _ _ _ c.in-Ok-Arrived.ensures.rule _ _ _ c.loop.invariant.kept c.in-Ok-Arrived.field-0-is c.in_ok-push-in-Ok-Arrived.ensures.items;
}

pub loop-preserved : goal.loop-preserved
loop-preserved g c = record {
  seat = c.try_recv_as.ensures.channel.0;
  role = taken_role _ _ _ c.in-Ok-End.ensures.rule _ c.loop.invariant.role;
  kept = taken_end _ _ _ c.in-Ok-End.ensures.rule _ c.loop.invariant.kept c.in-Ok-End.field-0-is;
}
