-- The layout has the factory.
use Rattle.std.proofs.Common.{refl, subst}
use Rattle.patch_layout.specs.Grid.{Grid, HasStore}
use Rattle.router_tests.proofs.site.filled.Goals as goal

pub new-maker-requires-clause-factory : goal.new-maker-requires-clause-factory
new-maker-requires-clause-factory c =
    let s = c.in-Some.field-0 in
    (s, subst (λ (g : Grid). HasStore g c.args.factory s) c.requires.site.layout ((c.in-Some.ensures.value s).0 refl))
