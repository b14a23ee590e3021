use Rattle.std.proofs.Common.{◌+◌, ◌<◌, length, arith, refl, subst, sym}
use Rattle.patch_layout.specs.Spread.{InQueue}
use Rattle.patch_layout.proofs.Places.{read_at}
use Rattle.region_plan.specs.inside.Tree.{Growth, Pushed}
use Rattle.region_plan.proofs.Places.{placing_more, placed_few}
use Rattle.region_plan.proofs.tree.Tree.push.Goals as goal

pub overflow_cast-place : goal.overflow_cast-place
overflow_cast-place c =
    let few = placed_few c.self.inside.tree.items c.self.inside.places.items c.self.invariant in
    omega (arith, few, c.self.invariant.few, c.self.inside.tree.ok.0, c.len-place.ensures)

pub overflow_add-steps : goal.overflow_add-steps
overflow_add-steps c =
    let P : Growth → Type 0 = λ x. c.args.from < length x.tree in
    let from : c.args.from < length c.self.inside.tree.items = subst P (sym c.self.view_is) c.requires.from in
    let is = read_at c.self.inside.tree c.args.from c.index.result.now (omega (arith, from, c.self.inside.tree.ok.0)) c.index.ensures in
    let few = placed_few c.self.inside.tree.items c.self.inside.places.items c.self.invariant in
    omega (arith, c.self.invariant.steps c.args.from c.index.result.now is, few, c.self.invariant.few, from)

pub invariant_of-self-2 : goal.invariant_of-self-2
invariant_of-self-2 c =
    let P : Growth → Type 0 = λ x. (c.args.from < length x.tree) × (c.args.cell < x.size) × (InQueue x.tree c.args.cell → ⊥) in
    let asked : (c.args.from < length c.self.inside.tree.items) × (c.args.cell < length c.self.inside.places.items) × (InQueue c.self.inside.tree.items c.args.cell → ⊥) =
    subst P (sym c.self.view_is) (c.requires.from, c.requires.cell, c.requires.new) in
    let is = read_at c.self.inside.tree c.args.from c.index.result.now (omega (arith, asked.0, c.self.inside.tree.ok.0)) c.index.ensures in
    placing_more c.self.inside.tree.items c.push.new.self.items c.self.inside.places.items c.index.result.now (record { cell = c.args.cell; from = c.args.from; steps = c.index.result.now.steps + 1 }) c.len-place.result
    c.self.invariant c.in_ok-push.ensures.items asked.1 asked.2 is refl (omega (arith, c.self.inside.tree.ok.0, c.len-place.ensures))

pub returns-clause-pushed : goal.returns-clause-pushed
returns-clause-pushed c =
    let P : Growth → Type 0 = λ x. c.args.from < length x.tree in
    let from : c.args.from < length c.self.inside.tree.items = subst P (sym c.self.view_is) c.requires.from in
    let is = read_at c.self.inside.tree c.args.from c.index.result.now (omega (arith, from, c.self.inside.tree.ok.0)) c.index.ensures in
    let Q : Growth → Type 0 = λ x. Pushed x.tree c.args.cell c.args.from c.len-place.result c.push.new.self.items in
    subst Q c.self.view_is (c.index.result.now, is, omega (arith, c.self.inside.tree.ok.0, c.len-place.ensures), c.in_ok-push.ensures.items)
