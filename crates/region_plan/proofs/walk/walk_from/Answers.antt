use Rattle.std.proofs.Common.{[], arith}
use Rattle.patch_layout.proofs.Places.{get_below}
use Rattle.region_plan.proofs.Seeking.{seeking_start, seeking_next, sought_none, in_none}
use Rattle.region_plan.proofs.walk.walk_from.Goals as goal

pub loop-head-init : goal.loop-head-init
loop-head-init c = seeking_start c.args.layout.now c.args.held.now c.args.pair.now [] c.begin.new.queue.items c.begin.new.seen c.in_ok-begin.ensures c.requires.few c.requires.sound.few

pub look_around-requires-clause-walk : goal.look_around-requires-clause-walk
look_around-requires-clause-walk c = (c.loop-head.invariant.starts, c.loop-head.invariant.spread)

pub loop-head-preserved : goal.loop-head-preserved
loop-head-preserved c =
    let (h, is) = get_below c.loop-head.queue.items c.loop-head.head (omega (arith, c.loop-head.queue.ok.0)) in
    seeking_next c.args.layout.now c.args.held.now c.args.pair.now [] c.loop-head.queue.items c.look_around.new.queue.items c.loop-head.head c.loop-head.seen c.look_around.new.seen h
    c.loop-head.invariant is (in_none h.cell) c.in_ok-look_around.ensures.walk c.in_ok-look_around.ensures.kept c.in_ok-look_around.ensures.whole c.in_ok-look_around.ensures.sizes

pub returns : goal.returns
returns c =
    sought_none c.args.layout.now c.args.held.now c.args.pair.now [] c.loop-head.queue.items c.loop-head.head c.loop-head.seen c.loop-head.invariant (omega (arith, c.loop-head.queue.ok.0))
