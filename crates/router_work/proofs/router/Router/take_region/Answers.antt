-- The router's claim stands, or the board refuses the plan.
use Rattle.std.proofs.Common.{List, inl, ap, ◌∙◌, subst}
use Rattle.source_model.specs.declared.Given.{Given}
use Rattle.router_work.specs.Tries.{Answered}
use Rattle.router_work.specs.Routing.{Routing}
use Rattle.router_work.proofs.Tryings.{claim_goes, claim_later, claim_stands, claims_begun, claims_on, gave_way, gave_way_answered, goes_on, tried_on, tried_stopped}
use Rattle.router_work.proofs.router.Router.take_region.Goals as goal

pub returns-then-is_stopped_after_answer-clause-tried : goal.returns-then-is_stopped_after_answer-clause-tried
returns-then-is_stopped_after_answer-clause-tried g c =
    let r = c.args.self.now in
    let s = c.claim_by.new.self in
    let calls = c.claim_by.ensures.calls in
    let ask = c.is_stopped_after_answer in
    let stands = claim_stands r s c.args.number c.args.plan _ c.claim_by.result calls c.requires.number c.claim_by.ensures.told c.in-Ok.claimed c.in-Ok.is in
    tried_stopped r s ask.new.self c.args.number (claim_goes r s c.args.number c.args.plan _ c.claim_by.result calls c.requires.number c.claim_by.ensures.told) (ap (λ (y : Routing). y.hand) calls.is)
    ask.ensures.goes ask.ensures.hand (ask.ensures.stopped c.if-is_stopped_after_answer.true) (inl (claims_begun s.pass c.args.number c.in-Ok.claimed.place stands))

pub complete-requires-clause-claimed : goal.complete-requires-clause-claimed
complete-requires-clause-claimed g c κs within =
    let s = c.claim_by.new.self in
    let ask = c.is_stopped_after_answer in
    let stands = claim_stands c.args.self.now s c.args.number c.args.plan _ c.claim_by.result c.claim_by.ensures.calls c.requires.number c.claim_by.ensures.told c.in-Ok.claimed c.in-Ok.is in
    claims_on s.pass ask.new.self.pass c.args.number c.in-Ok.claimed.place ask.ensures.goes.passed.same.2 ask.ensures.goes.passed.seen stands

pub returns-in-Ok-clause-tried : goal.returns-in-Ok-clause-tried
returns-in-Ok-clause-tried g c =
    let r = c.args.self.now in
    let s = c.claim_by.new.self in
    let u = c.is_stopped_after_answer.new.self in
    let calls = c.claim_by.ensures.calls in
    let ask = c.is_stopped_after_answer.ensures in
    let goes = claim_goes r s c.args.number c.args.plan _ c.claim_by.result calls c.requires.number c.claim_by.ensures.told in
    tried_on r u c.complete.new.self c.args.number c.complete.result (goes_on r s u goes ask.goes) (ask.hand ∙ ap (λ (y : Routing). y.hand) calls.is) c.complete.ensures.tried

pub returns-in-Ok-clause-answered : goal.returns-in-Ok-clause-answered
returns-in-Ok-clause-answered g c = λ p known.
    let r = c.args.self.now in
    let s = c.claim_by.new.self in
    let u = c.is_stopped_after_answer.new.self in
    let later = claim_later r s c.args.number c.args.plan _ c.claim_by.result c.claim_by.ensures.calls c.requires.number c.claim_by.ensures.told c.in-Ok.claimed c.in-Ok.is p u c.is_stopped_after_answer.ensures.goes known in
    let goes = claim_goes r s c.args.number c.args.plan _ c.claim_by.result c.claim_by.ensures.calls c.requires.number c.claim_by.ensures.told in
    let all = goes_on r s u goes c.is_stopped_after_answer.ensures.goes in
    subst (λ (gs : List Given). Answered gs p c.args.number c.complete.result.answer c.complete.new.self.pass) all.same.given (c.complete.ensures.answered p later)

pub returns-clause-tried : goal.returns-clause-tried
returns-clause-tried g c =
    let way = c.give_way.ensures in
    gave_way c.args.self.now c.claim_by.new.self c.args.number c.args.plan _ c.claim_by.result c.claim_by.ensures.calls c.requires.number c.claim_by.ensures.told
    c.give_way.new.self c.in-Err-Refused.refused c.in-Err-Refused.field-0 c.in-Err-Refused.is c.in-Err-Refused.field-0-is way.goes c.give_way.result way.hand (rw c.in-Err-Refused.field-0-is at way.gives_way)

pub returns-clause-answered : goal.returns-clause-answered
returns-clause-answered g c = λ p known.
    let way = c.give_way.ensures in
    gave_way_answered c.args.self.now c.claim_by.new.self c.args.number c.args.plan _ c.claim_by.result c.claim_by.ensures.calls c.requires.number c.claim_by.ensures.told
    c.give_way.new.self c.in-Err-Refused.refused c.in-Err-Refused.field-0 c.in-Err-Refused.is c.in-Err-Refused.field-0-is way.goes p c.give_way.result way.seen (rw c.in-Err-Refused.field-0-is at way.gives_way) known
