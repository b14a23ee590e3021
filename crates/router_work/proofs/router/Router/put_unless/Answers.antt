-- A number that was put back isn't held.
use Rattle.std.proofs.Common.{subst}
use Rattle.std.specs.List.{Contains}
use Rattle.router_work.specs.Routing.{Routing}
use Rattle.router_work.proofs.Workings.{put_gone}
use Rattle.router_work.proofs.router.Router.put_unless.Goals as goal

pub returns-clause-begun : goal.returns-clause-begun
returns-clause-begun g c = λ inside.
    absurd (put_gone c.args.number _ (subst (λ (r : Routing). Contains r.hand.held c.args.number) c.put.ensures.put inside))
