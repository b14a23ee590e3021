-- A settled product that isn't settled yet waits on an earlier one.
use Rattle.std.proofs.Common.{inl, refl, sym, ap, subst}
use Rattle.grid_lock.specs.Passes.{Known}
use Rattle.router_work.specs.Routing.{Routing}
use Rattle.router_work.specs.Tries.{SettlesAt}
use Rattle.router_work.proofs.Tryings.{goes_asked, settle_accepted, settle_has_kind, settle_has_product, settle_waits, settle_wants_no_claim, tried_stopped, tried_then}
use Rattle.router_work.proofs.router.Router.settle.Goals as goal

pub returns-then-is_stopped-clause-tried : goal.returns-then-is_stopped-clause-tried
returns-then-is_stopped-clause-tried g c =
    let r = c.args.self.now in
    let s = c.deliver_outcome.new.self in
    let calls = c.deliver_outcome.ensures.calls in
    let asked = c.is_stopped.ensures.asked in
    let x = settle_accepted r s c.args.number _ c.deliver_outcome.result c.rests.ensures.set_up calls c.requires.settled c.deliver_outcome.ensures.told c.in-Ok-deliver_outcome.place c.in-Ok-deliver_outcome.is in
    tried_stopped r s c.is_stopped.new.self c.args.number x.0.goes x.0.hand (goes_asked s c.is_stopped.new.self calls.calm asked) (ap (λ (y : Routing). y.hand) asked.0)
    (c.is_stopped.ensures.stopped c.if-is_stopped.true) (x.0.begun refl)

pub returns-in-Ok-deliver_outcome-clause-tried : goal.returns-in-Ok-deliver_outcome-clause-tried
returns-in-Ok-deliver_outcome-clause-tried g c =
    let r = c.args.self.now in
    let s = c.deliver_outcome.new.self in
    let calls = c.deliver_outcome.ensures.calls in
    let asked = c.is_stopped.ensures.asked in
    let x = settle_accepted r s c.args.number _ c.deliver_outcome.result c.rests.ensures.set_up calls c.requires.settled c.deliver_outcome.ensures.told c.in-Ok-deliver_outcome.place c.in-Ok-deliver_outcome.is in
    tried_then r s c.is_stopped.new.self c.args.number _ x.0 (goes_asked s c.is_stopped.new.self calls.calm asked) (ap (λ (y : Routing). y.hand) asked.0)

pub returns-in-Ok-deliver_outcome-clause-answered : goal.returns-in-Ok-deliver_outcome-clause-answered
returns-in-Ok-deliver_outcome-clause-answered g c =
    let r = c.args.self.now in
    let s = c.deliver_outcome.new.self in
    let place = c.in-Ok-deliver_outcome.place in
    let x = settle_accepted r s c.args.number _ c.deliver_outcome.result c.rests.ensures.set_up c.deliver_outcome.ensures.calls c.requires.settled c.deliver_outcome.ensures.told place c.in-Ok-deliver_outcome.is in
    (c.requires.settled, subst (λ (p : Known). SettlesAt p c.args.number place) (sym (ap (λ (y : Routing). y.pass) c.is_stopped.ensures.asked.0)) x.1)

pub returns-in-Waits-clause-answered : goal.returns-in-Waits-clause-answered
returns-in-Waits-clause-answered g c =
    let w = settle_waits c.args.self.now c.deliver_outcome.new.self c.args.number _ c.deliver_outcome.result c.rests.ensures.set_up c.deliver_outcome.ensures.calls c.requires.settled c.deliver_outcome.ensures.told
    c.in-Err-Refused.field-0 c.in-Err-Refused.refused c.in-Waits.on c.in-Err-Refused.is c.in-Err-Refused.field-0-is (rw c.in-Err-Refused.field-0-is at c.in-Waits.is) in
    inl (c.requires.settled, w)

pub unreachable-requires : goal.unreachable-requires
unreachable-requires g c =
    settle_has_product c.args.self.now c.deliver_outcome.new.self c.args.number _ c.deliver_outcome.result c.rests.ensures.set_up c.deliver_outcome.ensures.calls c.requires.settled c.deliver_outcome.ensures.told
    c.in-Err-Refused.field-0 c.in-Err-Refused.refused c.in-Err-Refused.is c.in-Err-Refused.field-0-is (rw c.in-Err-Refused.field-0-is at c.in-NoProduct.is)

pub unreachable-requires-in-Unclaimed : goal.unreachable-requires-in-Unclaimed
unreachable-requires-in-Unclaimed g c =
    settle_wants_no_claim c.args.self.now c.deliver_outcome.new.self c.args.number _ c.deliver_outcome.result c.rests.ensures.set_up c.deliver_outcome.ensures.calls c.requires.settled c.deliver_outcome.ensures.told
    c.in-Err-Refused.field-0 c.in-Err-Refused.refused c.in-Err-Refused.is c.in-Err-Refused.field-0-is (rw c.in-Err-Refused.field-0-is at c.in-Unclaimed.is)

pub unreachable-requires-in-WrongKind : goal.unreachable-requires-in-WrongKind
unreachable-requires-in-WrongKind g c =
    settle_has_kind c.args.self.now c.deliver_outcome.new.self c.args.number _ c.deliver_outcome.result c.rests.ensures.set_up c.deliver_outcome.ensures.calls c.requires.settled c.deliver_outcome.ensures.told
    c.in-Err-Refused.field-0 c.in-Err-Refused.refused c.in-Err-Refused.is c.in-Err-Refused.field-0-is (rw c.in-Err-Refused.field-0-is at c.in-WrongKind.is)
