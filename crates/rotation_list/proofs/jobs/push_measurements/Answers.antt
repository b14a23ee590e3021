use Rattle.rotation_list.proofs.Drawing.{measurements_first, measurements_more}
use Rattle.rotation_list.proofs.jobs.push_measurements.Goals as goal

pub loop-q-init : goal.loop-q-init
loop-q-init c = measurements_first c.args.items.now.items

pub loop-q-preserved : goal.loop-q-preserved
loop-q-preserved c = measurements_more c.loop-q.q _ _ _ c.loop-q.invariant c.in_ok-push_measure.ensures
