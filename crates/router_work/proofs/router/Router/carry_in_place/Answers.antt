-- A try after others is a try, and so is one after which nothing but the length was read.
use Rattle.std.proofs.Common.{ap, ◌∙◌}
use Rattle.router_work.specs.Routing.{Routing}
use Rattle.router_work.proofs.Tryings.{goes_measured, goes_on, goes_read, tried_on, tried_then}
use Rattle.router_work.proofs.router.Router.carry_in_place.Goals as goal

pub returns-then-is_over : goal.returns-then-is_over
returns-then-is_over g c =
    let r = c.args.self.now in
    let s = c.loop-again.self in
    let t = c.length_now-length.new.self in
    let call = c.length_now-length.ensures in
    let before = c.loop-again.invariant in
    record {
      tried = tried_on r t c.carry-tried.new.self c.args.number c.carry-tried.result
          (goes_on r s t before.goes (goes_measured s t c.length_now-length.result call.calls call.told))
          (ap (λ (x : Routing). x.hand) call.calls.is ∙ before.hand) c.carry-tried.ensures.tried;
    }

pub returns-then-not-outwaits : goal.returns-then-not-outwaits
returns-then-not-outwaits g c =
    let r = c.args.self.now in
    let s = c.loop-again.self in
    let t = c.length_now-length.new.self in
    let u = c.carry-tried.new.self in
    let call = c.length_now-length.ensures in
    let before = c.loop-again.invariant in
    let wait = c.outwaits.ensures in
    record {
      tried = tried_then r u c.outwaits.new.self c.args.number c.carry-tried.result
          (tried_on r t u c.args.number c.carry-tried.result
          (goes_on r s t before.goes (goes_measured s t c.length_now-length.result call.calls call.told))
          (ap (λ (x : Routing). x.hand) call.calls.is ∙ before.hand) c.carry-tried.ensures.tried)
          (goes_read u c.outwaits.new.self wait.calls wait.read) (ap (λ (x : Routing). x.hand) wait.calls.is);
    }

pub loop-again-preserved : goal.loop-again-preserved
loop-again-preserved g c =
    let r = c.args.self.now in
    let s = c.loop-again.self in
    let t = c.length_now-length.new.self in
    let u = c.carry-tried.new.self in
    let call = c.length_now-length.ensures in
    let before = c.loop-again.invariant in
    let tried = c.carry-tried.ensures.tried in
    let wait = c.outwaits.ensures in
    let to_t = goes_on r s t before.goes (goes_measured s t c.length_now-length.result call.calls call.told) in
    record {
      goes = goes_on r u c.outwaits.new.self (goes_on r t u to_t tried.goes) (goes_read u c.outwaits.new.self wait.calls wait.read);
      hand = ap (λ (x : Routing). x.hand) wait.calls.is ∙ (tried.hand ∙ (ap (λ (x : Routing). x.hand) call.calls.is ∙ before.hand));
    }

pub returns : goal.returns
returns g c =
    let before = c.loop-again.invariant in
    record {
      tried = tried_on c.args.self.now c.loop-again.self c.carry.new.self c.args.number c.carry.result before.goes before.hand c.carry.ensures.tried;
    }
