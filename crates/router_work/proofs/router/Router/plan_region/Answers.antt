-- Each product with an outcome is there, and the plan is for the look that the pass was given.
use Rattle.std.proofs.Common.{◌≡◌, refl, sym, ap, ◌∙◌, arith}
use Rattle.board_core.specs.Position.{Position}
use Rattle.grid_lock.specs.Answers.{ShowsProduct}
use Rattle.router_work.specs.Passing.{IsRouted}
use Rattle.router_work.specs.Routing.{Routing}
use Rattle.router_work.proofs.Passings.{passed_found}
use Rattle.router_work.proofs.Tryings.{goes_by_fields, is_planned, look_finds}
use Rattle.router_work.proofs.router.Router.plan_region.Goals as goal

pub unreachable-requires : goal.unreachable-requires
unreachable-requires g c =
    let r = c.args.self.now in
    let is : c.self.inside.pass ≡ r.pass = ap (λ (x : Routing). x.pass) c.self.view_is in
    let told = c.in-Err-NoProduct.ensures.told in
    look_finds r c.self.inside.pass told.0 c.look.new.pass.view c.args.number _ _ c.in-Err-NoProduct.field-0 is c.rests.ensures.set_up c.requires.below told.1 c.in-Err-NoProduct.field-0-is told.2

pub returns-clause-planned : goal.returns-clause-planned
returns-clause-planned g c =
    let r = c.args.self.now in
    let up = c.rests.ensures.set_up in
    let is : c.self.inside.pass ≡ r.pass = ap (λ (x : Routing). x.pass) c.self.view_is in
    let grid : c.self.inside.grid.now ≡ r.grid = ap (λ (x : Routing). x.grid) c.self.view_is in
    let same : c.self.inside.layout.now ≡ r.pass.view.opened.job.grid =
    c.self.invariant.1 ∙ ap (λ (b : Position). b.job.grid) (ap (λ x. x.opened) grid ∙ sym up.pass.1) in
    let told = c.in-Ok.ensures.told in
    is_planned r.pass c.self.inside.pass c.look.new.pass told.0 c.args.number c.look.new.look c.self.inside.layout.now c.plan-planned.result is same told.1 told.2 c.plan-planned.ensures

pub returns-then-says_stop-2-clause-goes : goal.returns-then-says_stop-2-clause-goes
returns-then-says_stop-2-clause-goes g c =
    let told = c.in-Ok.ensures.told in
    let looked = passed_found (IsRouted c.self.inside.outcomes.now.given) c.self.inside.pass c.look.new.pass told.0 c.look.ensures.same c.look.ensures.rests told.1 (λ b. ShowsProduct b c.args.number c.look.new.look) told.2 in
    let m = c.says_stop.ensures.counts in
    let n = c.says_stop-2.ensures.counts in
    goes_by_fields c.args.self.now _ _ c.self.view_is (record { grid = refl; share = refl; given = refl }) looked (omega arith)

pub returns-clause-goes : goal.returns-clause-goes
returns-clause-goes g c =
    let told = c.in-Ok.ensures.told in
    let looked = passed_found (IsRouted c.self.inside.outcomes.now.given) c.self.inside.pass c.look.new.pass told.0 c.look.ensures.same c.look.ensures.rests told.1 (λ b. ShowsProduct b c.args.number c.look.new.look) told.2 in
    let m = c.says_stop.ensures.counts in
    let n = c.says_stop-2.ensures.counts in
    goes_by_fields c.args.self.now _ _ c.self.view_is (record { grid = refl; share = refl; given = refl }) looked (omega arith)
