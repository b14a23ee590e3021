-- Accepted or refused, the outcome is delivered.
use Rattle.router_work.proofs.Tryings.{deliver_delivers}
use Rattle.router_work.proofs.router.Router.delivers.Goals as goal

pub returns-in-Ok-clause-delivered : goal.returns-in-Ok-clause-delivered
returns-in-Ok-clause-delivered g c = λ t.
    let d = c.deliver_outcome in
    let is = c.in-Ok.is in
    deliver_delivers c.args.self.now d.new.self c.args.number c.args.given _ d.result d.ensures.calls c.requires.outcome d.ensures.told c.rests.ensures.set_up (λ n e. cc) c.requires.claimed

pub returns-in-Err-Refused-clause-delivered : goal.returns-in-Err-Refused-clause-delivered
returns-in-Err-Refused-clause-delivered g c = λ t.
    let d = c.deliver_outcome in
    let is = c.in-Err-Refused.is in
    let was = c.in-Err-Refused.field-0-is in
    deliver_delivers c.args.self.now d.new.self c.args.number c.args.given _ d.result d.ensures.calls c.requires.outcome d.ensures.told c.rests.ensures.set_up (λ n e. cc) c.requires.claimed
