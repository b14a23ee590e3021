use Rattle.arrival_line.proofs.Feeds.{may_send, ended_closed, ended_split}
use Rattle.arrival_line.proofs.feed.finish.Goals as goal

pub send-requires-clause-role : goal.send-requires-clause-role
send-requires-clause-role g c = may_send _ _ _ _ c.requires.role

pub returns-in-Ok-clause-all : goal.returns-in-Ok-clause-all
returns-in-Ok-clause-all g c = ended_split _ _ _ c.requires.none c.in-Ok.ensures.sent

pub returns-in-Ok-clause-end : goal.returns-in-Ok-clause-end
returns-in-Ok-clause-end g c = (ended_closed _ _ c.in-Ok.ensures.sent, c.requires.none)
