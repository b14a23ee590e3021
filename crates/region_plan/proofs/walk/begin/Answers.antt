use Rattle.std.proofs.Common.{Some, None, refl}
use Rattle.region_plan.proofs.Seeking.{begun_past, begun_more, pair_item}
use Rattle.region_plan.proofs.walk.begin.Goals as goal
use Rattle.region_plan.proofs.walk.begin.Goals.{in-Some+in_ok-reach, in_default}

pub loop-start-preserved : goal.loop-start-preserved
loop-start-preserved c = elim c.match-start.branch [
  | in-Some+in_ok-reach w ↦
      rw (w.seen-is, w.queue-is)
      (begun_more c.args.layout.now c.args.held.now c.args.pair.now c.loop-start.start-index c.loop-start.queue.items _ c.loop-start.seen _ (record { cell = w.in-Some.cell; from = 0; steps = 0 })
      c.loop-start.invariant (pair_item c.args.pair.now c.loop-start.start-index (Some w.in-Some.cell) c.loop-start-test.true w.in-Some.is) refl refl w.in_ok-reach.ensures)
  | in_default w ↦
      rw (w.seen-is, w.queue-is)
      (begun_past c.args.layout.now c.args.held.now c.args.pair.now c.loop-start.start-index c.loop-start.queue.items c.loop-start.seen c.loop-start.invariant
      (pair_item c.args.pair.now c.loop-start.start-index None c.loop-start-test.true w.in_default.is))
]
