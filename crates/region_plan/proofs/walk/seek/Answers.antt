use Rattle.std.proofs.Common.{arith}
use Rattle.patch_layout.proofs.Places.{read_at}
use Rattle.region_plan.proofs.Seeking.{seeking_start, seeking_next, sought_some}
use Rattle.region_plan.proofs.walk.seek.Goals as goal

pub loop-head-init : goal.loop-head-init
loop-head-init c = seeking_start c.args.layout.now c.args.held.now c.args.pair.now c.args.tree.now.tree c.begin.new.queue.items c.begin.new.seen c.in_ok-begin.ensures c.requires.few c.requires.sound.few

pub returns-in-Some-clause-sought : goal.returns-in-Some-clause-sought
returns-in-Some-clause-sought c =
    let is = read_at c.loop-head.queue c.loop-head.head c.index-reached.result.now (omega arith) c.index-reached.ensures in
    sought_some c.args.layout.now c.args.held.now c.args.pair.now c.args.tree.now.tree c.loop-head.queue.items c.loop-head.seen c.index-reached.result.now (record { head = c.loop-head.head; place = c.in-Some.place })
    c.loop-head.invariant is c.in-Some.ensures

pub look_around-requires-clause-walk : goal.look_around-requires-clause-walk
look_around-requires-clause-walk c = (c.loop-head.invariant.starts, c.loop-head.invariant.spread)

pub loop-head-preserved : goal.loop-head-preserved
loop-head-preserved c =
    let is = read_at c.loop-head.queue c.loop-head.head c.index-reached.result.now (omega arith) c.index-reached.ensures in
    seeking_next c.args.layout.now c.args.held.now c.args.pair.now c.args.tree.now.tree c.loop-head.queue.items c.look_around.new.queue.items c.loop-head.head c.loop-head.seen c.look_around.new.seen c.index-reached.result.now
    c.loop-head.invariant is c.in_default.ensures c.in_ok-look_around.ensures.walk c.in_ok-look_around.ensures.kept c.in_ok-look_around.ensures.whole c.in_ok-look_around.ensures.sizes
