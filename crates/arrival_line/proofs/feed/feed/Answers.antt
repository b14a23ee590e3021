use Rattle.arrival_line.proofs.Feeds.{may_send, sent_role, sent_open, sent_all}
use Rattle.arrival_line.proofs.feed.feed.Goals as goal

pub send-sent-requires-clause-role : goal.send-sent-requires-clause-role
send-sent-requires-clause-role g c = may_send _ _ _ _ c.loop.invariant.role

pub loop-preserved : goal.loop-preserved
loop-preserved g c = record {
  seat = c.send-sent.ensures.seat;
  role = sent_role _ _ _ c.loop.invariant.role c.in_default-sent.ensures.sent;
  unended = sent_open _ _ _ c.loop.invariant.unended c.in_default-sent.ensures.sent;
  all = sent_all _ _ _ _ _ _ c.loop.invariant.all c.in-Some-next.ensures c.in_default-sent.ensures.sent;
}
