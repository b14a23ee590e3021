use Rattle.std.proofs.Common.{refl, arith}
use Rattle.region_plan.specs.Free.{Free}
use Rattle.region_plan.proofs.OverSides.{growing_start, growing_more, growing_stuck, growing_done}
use Rattle.region_plan.proofs.growth.grow.Goals as goal

pub loop-side-init : goal.loop-side-init
loop-side-init c = (growing_start c.args.layout.now (Free c.args.layout.now c.args.held.now) c.args.tree.now.tree c.args.sides.now c.args.touched.now.items c.requires.free c.requires.distinct c.requires.touched, refl, refl)

pub join-requires-clause-size : goal.join-requires-clause-size
join-requires-clause-size c = omega (arith, c.loop-side.invariant.1, c.requires.size)

pub join-requires-clause-free : goal.join-requires-clause-free
join-requires-clause-free c = c.loop-side.invariant.0.free

pub loop-side-preserved : goal.loop-side-preserved
loop-side-preserved c = (
  growing_more c.args.layout.now (Free c.args.layout.now c.args.held.now) c.args.tree.now.tree c.args.sides.now c.loop-side.side-index c.loop-side.tree.tree c.join.new.tree.tree c.loop-side.touched.items c.push.new.self.items _ c.in_ok-place.field-0 c.in-Some.place
      c.loop-side.invariant.0 c.loop-side-test.true c.in-Some.is c.in_ok-place.ensures.grafted c.in_ok-place.ensures.rooted c.in_ok-push-in-Some.ensures.items,
  omega (arith, c.loop-side.invariant.1, c.in_ok-place.ensures.size),
  omega (arith, c.loop-side.invariant.2, c.in_ok-place.ensures.marks),
)

pub returns-in-None-clause-sprung : goal.returns-in-None-clause-sprung
returns-in-None-clause-sprung c =
    growing_stuck c.args.layout.now (Free c.args.layout.now c.args.held.now) c.args.tree.now.tree c.args.sides.now c.loop-side.side-index c.loop-side.tree.tree c.join.new.tree.tree c.loop-side.touched.items c.loop-side.touched.items _ c.in_ok-place.field-0
    c.loop-side.invariant.0 c.loop-side-test.true c.in-None.is c.in_ok-place.ensures.grafted

pub returns-clause-sprung : goal.returns-clause-sprung
returns-clause-sprung c =
    growing_done c.args.layout.now (Free c.args.layout.now c.args.held.now) c.args.tree.now.tree c.args.sides.now c.loop-side.side-index c.loop-side.tree.tree c.loop-side.touched.items c.loop-side.invariant.0 c.loop-side-test.false (omega arith)
