use Rattle.arrival_line.proofs.Feeds.{may_receive}
use Rattle.arrival_line.proofs.Lines.{gets}
use Rattle.arrival_line.proofs.Receives.{came_all, came_end}
use Rattle.arrival_line.proofs.receive.look.Goals as goal

pub try_recv_as-requires-clause-rule : goal.try_recv_as-requires-clause-rule
try_recv_as-requires-clause-rule g c = (gets _ _ (may_receive _ _ _ _ c.requires.role), λ items views h at. tt)

pub returns-in-Ok-clause-came : goal.returns-in-Ok-clause-came
returns-in-Ok-clause-came g c = came_all _ _ _ _ c.as_next.ensures c.in-Ok.ensures.rule.0

pub returns-in-Ok-clause-ended : goal.returns-in-Ok-clause-ended
returns-in-Ok-clause-ended g c = came_end _ _ _ _ c.as_next.ensures c.in-Ok.ensures.rule.0
