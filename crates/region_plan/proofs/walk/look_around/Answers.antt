use Rattle.std.proofs.Common.{◌+◌, Some, None, refl, arith}
use Rattle.patch_layout.proofs.Looking.{item_at}
use Rattle.patch_layout.proofs.Places.{read_at}
use Rattle.region_plan.proofs.Seeking.{around_start, around_past, around_more, around_done}
use Rattle.region_plan.proofs.walk.look_around.Goals as goal
use Rattle.region_plan.proofs.walk.look_around.Goals.{in-Some+in_ok-reach, in_default}

pub neighbours-neighbour-items-requires : goal.neighbours-neighbour-items-requires
neighbours-neighbour-items-requires c =
    c.requires.walk.1.within c.args.head _ (read_at c.args.queue.now c.args.head c.index-at.result.now (omega (arith, c.args.queue.now.ok.0)) c.index-at.ensures)

pub loop-neighbour-init : goal.loop-neighbour-init
loop-neighbour-init c =
    around_start c.args.layout.now c.args.held.now c.args.queue.now.items c.args.head c.args.seen.now c.index-at.result.now _ c.requires.walk.0 c.requires.walk.1
    (read_at c.args.queue.now c.args.head c.index-at.result.now (omega (arith, c.args.queue.now.ok.0)) c.index-at.ensures) c.requires.sizes

pub loop-neighbour-preserved : goal.loop-neighbour-preserved
loop-neighbour-preserved c = elim c.match-neighbour.branch [
  | in-Some+in_ok-reach w ↦
      let item = item_at c.args.layout.now c.index-at.result.now.cell _ c.loop-neighbour.neighbour-index (Some w.in-Some.cell) c.neighbours-neighbour-items.ensures.value c.loop-neighbour-test.true w.in-Some.is in
      rw (w.seen-is, w.queue-is)
      (around_more c.args.layout.now c.args.held.now c.args.queue.now.items c.loop-neighbour.queue.items _ c.args.head c.args.seen.now c.loop-neighbour.seen _ c.index-at.result.now
      (record { cell = w.in-Some.cell; from = c.args.head; steps = c.index-at.result.now.steps + 1 }) _ _
      c.loop-neighbour.invariant c.neighbours-neighbour-items.ensures.value item refl refl w.in_ok-reach.ensures)
  | in_default w ↦
      let item = item_at c.args.layout.now c.index-at.result.now.cell _ c.loop-neighbour.neighbour-index None c.neighbours-neighbour-items.ensures.value c.loop-neighbour-test.true w.in_default.is in
      rw (w.seen-is, w.queue-is)
      (around_past c.args.layout.now c.args.held.now c.args.queue.now.items c.loop-neighbour.queue.items c.args.head c.args.seen.now c.loop-neighbour.seen c.index-at.result.now _ _ c.loop-neighbour.invariant item)
]

pub returns-clause-walk : goal.returns-clause-walk
returns-clause-walk c =
    around_done c.args.layout.now c.args.held.now c.args.queue.now.items c.loop-neighbour.queue.items c.args.head c.args.seen.now c.loop-neighbour.seen c.index-at.result.now _ _ c.loop-neighbour.invariant c.loop-neighbour-test.false
    c.neighbours-neighbour-items.ensures.value
