-- There are few products.
use Rattle.std.proofs.Common.{◌≡◌, List, length, ap, arith}
use Rattle.source_model.specs.declared.Given.{Given}
use Rattle.router_work.specs.Routing.{Routing}
use Rattle.router_work.proofs.Tryings.{few_outcomes}
use Rattle.router_work.proofs.router.Router.tries.Goals as goal

pub overflow_mul-result : goal.overflow_mul-result
overflow_mul-result g c =
    let few = few_outcomes c.args.self.now c.rests.ensures.set_up c.rests.ensures.calm in
    let same : length c.self.inside.outcomes.now.given ≡ length c.args.self.now.given = ap (λ (r : Routing). length r.given) c.self.view_is in
    let read : length c.as_slice.result.now ≡ length c.self.inside.outcomes.now.given = ap (λ (l : List Given). length l) c.as_slice.ensures in
    omega arith
