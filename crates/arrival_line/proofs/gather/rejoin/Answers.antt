use Rattle.std.proofs.Common.{ap}
use Rattle.arrival_line.specs.declared.arrival.Traffic.{Traffic}
use Rattle.arrival_line.proofs.Feeds.{may_send, may_receive}
use Rattle.arrival_line.proofs.Gathers.{begins_sent}
use Rattle.arrival_line.proofs.Lines.{merges, rests}
use Rattle.arrival_line.proofs.gather.rejoin.Goals as goal

pub absorb-requires-clause-rule : goal.absorb-requires-clause-rule
absorb-requires-clause-rule c = merges _ _ _ _ (may_send _ _ _ _ c.requires.sent) (may_receive _ _ _ _ c.requires.got)

pub learn_as-requires-clause-rule : goal.learn_as-requires-clause-rule
learn_as-requires-clause-rule c = rests _ _ (may_send _ _ _ _ c.absorb.ensures.rule) (may_receive _ _ _ _ c.absorb.ensures.rule)

pub returns-clause-prefix : goal.returns-clause-prefix
returns-clause-prefix c =
    let l = c.learn_as.ensures.rule in
    let e = c.absorb.ensures.rule in
    begins_sent _ _ _ _ (ap (λ (u : Traffic). u.sent) e) (ap (λ (u : Traffic). u.got) e) l.0 l.1.0
