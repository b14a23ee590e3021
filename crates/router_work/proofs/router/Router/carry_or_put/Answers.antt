-- A number that was put back isn't held, and each other one is of a product that is begun.
use Rattle.std.proofs.Common.{sym, ap, subst}
use Rattle.std.specs.List.{Contains}
use Rattle.grid_lock.specs.Passes.{Known}
use Rattle.router_work.specs.Routing.{Routing}
use Rattle.router_work.specs.Tries.{IsBegun}
use Rattle.router_work.proofs.Workings.{put_gone}
use Rattle.router_work.proofs.router.Router.carry_or_put.Goals as goal

pub returns-then-is_stopped-clause-begun : goal.returns-then-is_stopped-clause-begun
returns-then-is_stopped-clause-begun g c = λ inside.
    absurd (put_gone c.args.number _ (subst (λ (r : Routing). Contains r.hand.held c.args.number) c.put.ensures.put inside))

pub returns-clause-begun : goal.returns-clause-begun
returns-clause-begun g c = λ inside.
    let tried = c.carry_in_place-tried.ensures.tried in
    subst (λ (p : Known). IsBegun p c.args.number) (sym (ap (λ (r : Routing). r.pass) c.put_unless.ensures.hand)) (tried.begun (c.put_unless.ensures.begun inside))
