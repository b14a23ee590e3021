-- Accepted or refused, the product is released.
use Rattle.router_work.proofs.Tryings.{release_releases}
use Rattle.router_work.proofs.router.Router.releases.Goals as goal

pub returns-in-Ok-clause-released : goal.returns-in-Ok-clause-released
returns-in-Ok-clause-released g c = λ t.
    let d = c.release_product in
    let is = c.in-Ok.is in
    release_releases c.args.self.now d.new.self c.args.number c.args.given _ d.result d.ensures.calls c.requires.outcome d.ensures.told c.rests.ensures.set_up (λ n e. cc) c.requires.delivered

pub returns-in-Err-Refused-clause-released : goal.returns-in-Err-Refused-clause-released
returns-in-Err-Refused-clause-released g c = λ t.
    let d = c.release_product in
    let is = c.in-Err-Refused.is in
    let was = c.in-Err-Refused.field-0-is in
    release_releases c.args.self.now d.new.self c.args.number c.args.given _ d.result d.ensures.calls c.requires.outcome d.ensures.told c.rests.ensures.set_up (λ n e. cc) c.requires.delivered
