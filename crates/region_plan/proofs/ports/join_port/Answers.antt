use Rattle.std.proofs.Common.{ℕ, List, Option, refl, sym, subst, arith}
use Rattle.patch_layout.specs.declared.layout.Side.TheVariants as side
use Rattle.patch_layout.specs.Region.{OnSide}
use Rattle.region_plan.specs.Free.{Free}
use Rattle.region_plan.specs.inside.Tree.{Grafted, Rooted}
use Rattle.region_plan.specs.inside.Kept.{Suits}
use Rattle.region_plan.proofs.Porting.{not_reached, goes_on}
use Rattle.region_plan.proofs.ports.join_port.Goals as goal

pub returns-in_ok-push-in-Some : goal.returns-in_ok-push-in-Some
returns-in_ok-push-in-Some c =
    let G : List (Option ℕ) → Type 0 = λ h. Grafted c.args.layout.now (Free c.args.layout.now h) (OnSide c.args.layout.now (side.Port c.args.factory)) c.args.region.now.tree.tree c.join.new.tree.tree c.in_ok-place.field-0 in
    let R : List (Option ℕ) → Type 0 = λ h. (root : ℕ) → Rooted c.args.layout.now (Free c.args.layout.now h) root c.args.region.now.tree.tree → Rooted c.args.layout.now (Free c.args.layout.now h) root c.join.new.tree.tree in (
      c.if-not-is_offered.ensures.0 refl,
      goes_on c.args.layout.now c.args.look.now c.args.factory c.args.region.now (record { tree = c.join.new.tree; touched = c.push.new.self; seen = c.join.new.seen; queue = c.join.new.queue }) c.in_ok-place.field-0 c.in-Some.place
          c.in-Some.is (subst G c.as_slice.ensures c.in_ok-place.ensures.grafted) (subst R c.as_slice.ensures c.in_ok-place.ensures.rooted) c.in_ok-push-in-Some.ensures.items,
    )

pub returns-in-None : goal.returns-in-None
returns-in-None c =
    let G : List (Option ℕ) → Type 0 = λ h. Grafted c.args.layout.now (Free c.args.layout.now h) (OnSide c.args.layout.now (side.Port c.args.factory)) c.args.region.now.tree.tree c.join.new.tree.tree c.in_ok-place.field-0 in
    let (same, none) = not_reached c.args.layout.now c.args.look.now c.args.factory c.args.region.now.tree.tree c.join.new.tree.tree c.in_ok-place.field-0 c.in-None.is (subst G c.as_slice.ensures c.in_ok-place.ensures.grafted) in (
      same,
      refl,
      (c.requires.tables.0, omega (arith, c.requires.tables.1, c.in_ok-place.ensures.size), omega (arith, c.requires.tables.2, c.in_ok-place.ensures.marks)),
      λ _. none,
    )

pub join-requires-clause-suits : goal.join-requires-clause-suits
join-requires-clause-suits c = let P : List (Option ℕ) → Type 0 = λ h. Suits c.args.layout.now h c.args.walks.now in subst P (sym c.as_slice.ensures) c.requires.suits
