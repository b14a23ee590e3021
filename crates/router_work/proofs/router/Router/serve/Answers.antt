-- A product that waits on none is looked at and planned.
use Rattle.std.proofs.Common.{List, subst}
use Rattle.source_model.specs.declared.Given.{Given}
use Rattle.router_work.specs.Tries.{Answered}
use Rattle.router_work.proofs.Tryings.{answered_before, tried_on}
use Rattle.router_work.proofs.router.Router.serve.Goals as goal

pub returns-in-None-clause-tried : goal.returns-in-None-clause-tried
returns-in-None-clause-tried g c =
    let first = c.held_back.ensures in
    tried_on c.args.self.now c.held_back.new.self c.serve_next.new.self c.args.number c.serve_next.result first.goes first.hand c.serve_next.ensures.tried

pub returns-in-None-clause-answered : goal.returns-in-None-clause-answered
returns-in-None-clause-answered g c =
    let r = c.args.self.now in
    let s = c.held_back.new.self in
    let first = c.held_back.ensures in
    answered_before r.pass s.pass c.serve_next.new.self.pass first.goes.passed.seen first.goes.passed.same.1 first.read r.given c.args.number c.serve_next.result.answer
    (subst (λ (gs : List Given). Answered gs s.pass c.args.number c.serve_next.result.answer c.serve_next.new.self.pass) first.goes.same.given c.serve_next.ensures.answered)
