use Rattle.std.proofs.Common.{refl, ◌∙◌}
use Rattle.std.proofs.lemmas.Option.{none-some}
use Rattle.live_readout.proofs.Lists.{factory_kept, factory_skipped}
use Rattle.live_readout.proofs.route.push_factory.Goals as goal

pub returns-in_ok-push-in-Some : goal.returns-in_ok-push-in-Some
returns-in_ok-push-in-Some c =
    let store = c.in-Some.field-0 in
    c.in_ok-push-in-Some.ensures.items ∙ factory_kept c.args.layout.now c.args.factory store c.args.factories.now.items ((c.in-Some.ensures.value store).0 refl)

pub returns-in-None : goal.returns-in-None
returns-in-None c =
    factory_skipped c.args.layout.now c.args.factory c.args.factories.now.items (λ store has. none-some store ((c.in-None.ensures.value store).1 has))
