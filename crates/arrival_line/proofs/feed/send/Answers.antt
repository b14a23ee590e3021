use Rattle.std.proofs.Common.{ap, ◌∙◌}
use Rattle.arrival_line.specs.declared.arrival.Traffic.{Traffic}
use Rattle.arrival_line.specs.Messages.{is_open}
use Rattle.arrival_line.proofs.Lines.{sends}
use Rattle.arrival_line.proofs.feed.send.Goals as goal

pub try_send_as-requires-clause-rule : goal.try_send_as-requires-clause-rule
try_send_as-requires-clause-rule g c = (sends _ _ _ _ c.requires.role c.requires.unended, λ items views h at. tt)

pub send_as-requires-clause-rule : goal.send_as-requires-clause-rule
send_as-requires-clause-rule g c =
    let same = c.in-Err-Full.ensures.rule.1 in
    (sends _ _ _ _ (ap (λ (v : Traffic). v.sends) same ∙ c.requires.role) (ap (λ (v : Traffic). is_open v.sent) same ∙ c.requires.unended), λ items views h at. tt)
