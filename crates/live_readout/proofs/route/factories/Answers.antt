-- One factory more.
use Rattle.std.proofs.Common.{ℕ, List, [], ◌∷◌, ◌++◌, ◌∙◌, ap, sym}
use Rattle.std.specs.List.{filter}
use Rattle.live_readout.specs.Routes.{has_factory}
use Rattle.live_readout.proofs.Lists.{factories_more}
use Rattle.live_readout.proofs.route.factories.Goals as goal

pub loop-factory-preserved : goal.loop-factory-preserved
loop-factory-preserved c =
    let f = c.loop-factory.factory in
    let g = c.args.layout.now in
    c.in_ok-push_factory.ensures ∙ ap (λ (l : List ℕ). l ++ filter (has_factory g) (f ∷ [])) c.loop-factory.invariant
    ∙ sym (factories_more g f)
