use Rattle.std.proofs.Common.{◌≡◌, [], ◌∷◌, ap, refl, arith}
use Rattle.patch_layout.specs.Spread.{starting}
use Rattle.region_plan.specs.Free.{Free}
use Rattle.region_plan.specs.inside.Tree.{Growth}
use Rattle.region_plan.proofs.Serving.{sprouted, sprouted_not}
use Rattle.region_plan.proofs.growth.sprout.Goals as goal

pub returns-then-branch : goal.returns-then-branch
returns-then-branch c =
    let start : c.in_ok-tree.tree.tree ≡ starting c.args.first ∷ [] = ap (λ (x : Growth). x.tree) c.in_ok-tree.ensures in
    let size : c.in_ok-tree.tree.size ≡ c.size-size.result = ap (λ (x : Growth). x.size) c.in_ok-tree.ensures in (
      c.args.first,
      refl,
      sprouted c.args.layout.now (Free c.args.layout.now c.args.held.now) c.args.sides.now c.args.first c.in_ok-tree.tree.tree c.grow.new.tree.tree c.grow.new.touched.items c.in_ok-grow.field-0
          c.if-branch.true start c.requires.first c.in_ok-grow.ensures.sprung,
      (c.size-size.ensures.sound, omega (arith, size, c.size-size.ensures.value, c.in_ok-grow.ensures.size), omega (arith, c.size-size.ensures.value, c.in_ok-seen.ensures, c.in_ok-grow.ensures.marks)),
    )

pub returns-else-branch : goal.returns-else-branch
returns-else-branch c =
    let start : c.in_ok-tree.tree.tree ≡ starting c.args.first ∷ [] = ap (λ (x : Growth). x.tree) c.in_ok-tree.ensures in
    sprouted_not c.args.layout.now (Free c.args.layout.now c.args.held.now) c.args.sides.now c.args.first c.in_ok-tree.tree.tree c.grow.new.tree.tree c.grow.new.touched.items c.in_ok-grow.field-0 c.if-branch.false start c.in_ok-grow.ensures.sprung
