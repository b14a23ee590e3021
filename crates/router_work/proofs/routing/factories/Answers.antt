use Rattle.std.proofs.Common.{ℕ, length, refl, ap, arith, length-append}
use Rattle.std.proofs.lemmas.List.Elements.{All-same, All-push}
use Rattle.patch_layout.specs.Grid.{HasStore}
use Rattle.router_work.proofs.routing.factories.Goals as goal

pub loop-factory-preserved : goal.loop-factory-preserved
loop-factory-preserved c =
    let at = c.loop-factory in
    let P : ℕ → Type 0 = λ f. (s : ℕ) × HasStore c.args.layout.now f s in
    let here : P at.factory = (c.in-Some.field-0, (c.in-Some.ensures.value c.in-Some.field-0).0 refl) in
    let items = c.in_ok-push.ensures.items in
    let few = at.invariant.few in
    record {
      stores = All-same P _ _ items (All-push P at.factories.items at.factory at.invariant.stores here);
      few = omega (arith, ap length items, length-append {A = ℕ});
    }
