-- All passes come back, with the numbers that they were given.
use Rattle.std.proofs.Common.{◌≡◌, ◌+◌, ℕ, List, Option, length, ap, ◌∙◌, subst, arith}
use Rattle.std.specs.List.{All}
use Rattle.source_model.specs.declared.Kind.{Kind}
use Rattle.patch_layout.specs.Grid.{Grid}
use Rattle.grid_lock.specs.Passes.{Known}
use Rattle.arrival_line.specs.Strays.{Serves}
use Rattle.live_readout.specs.Routes.{IsByLiveWorker, factories_of}
use Rattle.live_readout.specs.inside.Workers.{IsBack}
use Rattle.live_readout.proofs.Crews.{all_hired, all_passes, factories_fit, few_factories, made_after}
use Rattle.live_readout.proofs.route.bring.Goals as goal

pub hire_makers-workers-requires-clause-factories :
    goal.hire_makers-workers-requires-clause-factories
hire_makers-workers-requires-clause-factories g c κs within =
    factories_fit c.args.grid.now c.args.plans.layout c.as_slice-2.result.now c.requires.layout (c.as_slice-2.ensures.value ∙ c.in_ok-factories.ensures)

pub hire_makers-workers-requires-clause-few : goal.hire_makers-workers-requires-clause-few
hire_makers-workers-requires-clause-few g c κs within =
    few_factories c.args.plans.layout c.as_slice-2.result.now (c.as_slice-2.ensures.value ∙ c.in_ok-factories.ensures)

pub next_pass-pass-requires-clause-few : goal.next_pass-pass-requires-clause-few
next_pass-pass-requires-clause-few g c =
    let routers = c.hire_routers-workers in
    let makers = c.hire_makers-workers in
    let k = length c.args.gates.items in
    let m = length c.as_slice-2.result.now in
    let made : makers.new.first.view.made ≡ k + m = made_after c.args.first.now routers.new.first makers.new.first k m c.requires.first.2 routers.ensures.first makers.ensures.first in
    let few = c.requires.gates.1 in
    omega (arith, made, few, few_factories c.args.plans.layout c.as_slice-2.result.now (c.as_slice-2.ensures.value ∙ c.in_ok-factories.ensures))

pub returns-clause-back : goal.returns-clause-back
returns-clause-back g c =
    let grid = c.args.grid.now in
    let all = g.R.Readout.left c.args.readout in
    let routers = c.hire_routers-workers in
    let makers = c.hire_makers-workers in
    let pass = c.next_pass-pass in
    let line = c.in_ok-line.line in
    let fs = c.as_slice-2.result.now in
    let ps = c.run.result.passes.items in
    let k = length c.args.gates.items in
    let m = length fs in
    let there : ℕ = length (factories_of grid.opened.job.grid) in
    let made : makers.new.first.view.made ≡ k + m = made_after c.args.first.now routers.new.first makers.new.first k m c.requires.first.2 routers.ensures.first makers.ensures.first in
    let number : pass.result.view.number ≡ k + m + 1 = ap (λ (z : Known). z.view.number) pass.ensures.new ∙ ap (λ (n : ℕ). n + 1) made in
    let hired = all_hired grid k m routers.result.items makers.result.items (routers.ensures.hired m) routers.ensures.count makers.ensures.hired in
    let back = all_passes grid line all k m makers.result.items pass.result ps hired number c.run.ensures.passes in
    let same : m ≡ there = ap (λ (l : List ℕ). length l) (c.as_slice-2.ensures.value ∙ c.in_ok-factories.ensures) ∙ ap (λ (x : Grid). length (factories_of x)) c.requires.layout in
    subst (λ (w : List (Option Kind)). All (IsBack grid (IsByLiveWorker (Serves w all) k there)) ps) c.in_ok-line.ensures
    (subst (λ (n : ℕ). All (IsBack grid (IsByLiveWorker (Serves line all) k n)) ps) same back)
