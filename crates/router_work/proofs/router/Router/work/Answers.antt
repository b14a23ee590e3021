-- Each number is carried out or put back.
use Rattle.std.proofs.Common.{ℕ, List, sym, ap, subst}
use Rattle.std.proofs.lemmas.List.Elements.{Contains-push}
use Rattle.std.specs.List.{Contains}
use Rattle.router_work.specs.Routing.{Routing}
use Rattle.router_work.proofs.Tryings.{goes_on}
use Rattle.router_work.proofs.Workings.{goes_in_hand, loses_none_on, loses_none_yet, turned_on}
use Rattle.router_work.proofs.router.Router.work.Goals as goal

pub returns-in_default-clause-loses_none : goal.returns-in_default-clause-loses_none
returns-in_default-clause-loses_none g c =
    loses_none_yet c.args.self.now c.loop-try.self c.take.new.self c.loop-try.invariant.loses_none c.in_default.ensures.none.2 (ap (λ (r : Routing). r.pass) c.take.ensures.hand)

pub carry_or_put-requires-clause-taken : goal.carry_or_put-requires-clause-taken
carry_or_put-requires-clause-taken g c κs within =
    subst (λ (l : List ℕ). Contains l c.in-Some.number) (sym c.in-Some.ensures.taken.1) (Contains-push c.loop-try.self.hand.held c.in-Some.number)

pub returns-in-Some-carry_or_put-clause-passed : goal.returns-in-Some-carry_or_put-clause-passed
returns-in-Some-carry_or_put-clause-passed g c =
    let s = c.loop-try.self in
    let t = c.take.new.self in
    let u = c.carry_or_put.new.self in
    let before = c.loop-try.invariant.goes in
    let taken = goes_in_hand s t before.passed.calm c.take.ensures.hand in
    (goes_on c.args.self.now s u before (goes_on s t u taken c.carry_or_put.ensures.goes)).passed

pub returns-in-Some-carry_or_put-clause-loses_none : goal.returns-in-Some-carry_or_put-clause-loses_none
returns-in-Some-carry_or_put-clause-loses_none g c =
    let e = c.carry_or_put.ensures in
    loses_none_on c.args.self.now c.loop-try.self c.take.new.self c.carry_or_put.new.self c.in-Some.number c.loop-try.invariant.loses_none c.in-Some.ensures.taken.1
    (ap (λ (r : Routing). r.pass) c.take.ensures.hand) e.goes e.held e.begun

pub loop-try-preserved : goal.loop-try-preserved
loop-try-preserved g c =
    let r = c.args.self.now in
    let s = c.loop-try.self in
    let t = c.take.new.self in
    let u = c.carry_or_put.new.self in
    let before = c.loop-try.invariant in
    let e = c.carry_or_put.ensures in
    let taken = goes_in_hand s t before.goes.passed.calm c.take.ensures.hand in
    record {
      goes = goes_on r s u before.goes (goes_on s t u taken e.goes);
      turned = turned_on r s t u c.loop-try._try before.turned (ap (λ (x : Routing). x.pass) c.take.ensures.hand) c.in_default-carry_or_put.ensures.turned;
      loses_none = loses_none_on r s t u c.in-Some.number before.loses_none c.in-Some.ensures.taken.1 (ap (λ (x : Routing). x.pass) c.take.ensures.hand) e.goes e.held e.begun;
    }
