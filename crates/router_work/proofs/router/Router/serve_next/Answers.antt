-- What was planned is carried out, or is the answer.
use Rattle.std.proofs.Common.{inr, List, subst}
use Rattle.source_model.specs.declared.Given.{Given}
use Rattle.region_plan.specs.declared.answer.Planned.{Planned}
use Rattle.router_work.specs.Tries.{Answered, IsPlanned}
use Rattle.router_work.proofs.Tryings.{planned_begun, planned_waits, tried_on}
use Rattle.router_work.proofs.router.Router.serve_next.Goals as goal

pub returns-in-Region-clause-tried : goal.returns-in-Region-clause-tried
returns-in-Region-clause-tried g c =
    let plan = c.plan_region.ensures in
    tried_on c.args.self.now c.plan_region.new.self c.take_region.new.self c.args.number c.take_region.result plan.goes plan.hand c.take_region.ensures.tried

pub returns-in-Region-clause-answered : goal.returns-in-Region-clause-answered
returns-in-Region-clause-answered g c =
    let r = c.args.self.now in
    let known = subst (λ (a : Planned). IsPlanned r.pass c.plan_region.new.self.pass c.args.number a) c.in-Region.is c.in-Ok.ensures.planned in
    subst (λ (gs : List Given). Answered gs r.pass c.args.number c.take_region.result.answer c.take_region.new.self.pass) c.plan_region.ensures.goes.same.given (c.take_region.ensures.answered r.pass known)

pub returns-in-Taken-clause-tried : goal.returns-in-Taken-clause-tried
returns-in-Taken-clause-tried g c =
    let r = c.args.self.now in
    let plan = c.plan_region.ensures in
    let known = subst (λ (a : Planned). IsPlanned r.pass c.plan_region.new.self.pass c.args.number a) c.in-Taken.is c.in-Ok.ensures.planned in
    record {
      goes = plan.goes;
      hand = plan.hand;
      ends = c.in-Ok.ensures.turned;
      begun = λ b. planned_begun r.pass c.plan_region.new.self.pass c.args.number c.in-Taken.place known;
    }

pub returns-in-NotReady-clause-answered : goal.returns-in-NotReady-clause-answered
returns-in-NotReady-clause-answered g c =
    let r = c.args.self.now in
    let known = subst (λ (a : Planned). IsPlanned r.pass c.plan_region.new.self.pass c.args.number a) c.in-NotReady.is c.in-Ok.ensures.planned in
    inr (planned_waits r.pass c.plan_region.new.self.pass c.args.number c.in-NotReady.on known)
