use Rattle.std.proofs.Common.{List, length, arith, sym, subst}
use Rattle.source_model.specs.declared.Given.{Given}
use Rattle.std.proofs.Common.{◌≤◌, ap}
use Rattle.router_work.proofs.Crews.{all_hired, factories_fit, few_outcomes, passes_back}
use Rattle.router_work.proofs.routing.bring.Goals as goal

pub overflow_cast-numbers : goal.overflow_cast-numbers
overflow_cast-numbers g c =
    let few = few_outcomes c.args.grid.now.opened c.args.outcomes.now.given c.requires.legal c.requires.outcomes in
    let same = ap (λ (l : List Given). length l) c.as_slice.ensures in
    omega (arith, few, same)

pub new-requires-clause-numbers : goal.new-requires-clause-numbers
new-requires-clause-numbers g c =
    let few = few_outcomes c.args.grid.now.opened c.args.outcomes.now.given c.requires.legal c.requires.outcomes in
    let same = ap (λ (l : List Given). length l) c.as_slice.ensures in
    omega (arith, few, same)

pub hire_makers-workers-requires-clause-factories :
    goal.hire_makers-workers-requires-clause-factories
hire_makers-workers-requires-clause-factories g c κs within =
    factories_fit c.args.grid.now c.args.layout.now c.in_ok-factories.factories.items c.requires.layout c.in_ok-factories.ensures.stores

pub returns-clause-back : goal.returns-clause-back
returns-clause-back g c =
    let given = c.args.outcomes.now.given in
    let k = length c.args.gates.items in
    let routers = c.hire_routers-workers in
    let makers = c.hire_makers-workers in
    passes_back c.args.grid.now given k makers.result.items c.bring_back.result.items
    (all_hired c.args.grid.now given k routers.result.items makers.result.items routers.ensures.hired routers.ensures.count makers.ensures.hired)
    c.bring_back.ensures
