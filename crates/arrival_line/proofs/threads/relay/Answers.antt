use Rattle.std.proofs.Common.{◌∙◌, ap}
use Rattle.arrival_line.proofs.Relays.{delivers_all, given_back}
use Rattle.arrival_line.proofs.threads.relay.Goals as goal

pub returns-clause-delivers : goal.returns-clause-delivers
returns-clause-delivers g c = let e = c.new-inbox.ensures.parts in
    given_back g.C.Courier.made _ _ _ _ _ c.gather-courier.ensures.courier
    (delivers_all _ _ _ _ _ _ _ _ _ _ _ c.run-fed.ensures.fed.1.1 c.gather-courier.ensures.prefix.1 (ap (λ v. v.items) e.1 ∙ c.line.view_is) (ap g.C.Courier.made e.0) c.run-fed.ensures.received.1.2)
