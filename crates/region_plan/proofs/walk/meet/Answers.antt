use Rattle.region_plan.proofs.Seeking.{none_more, met_at, none_whole}
use Rattle.region_plan.proofs.walk.meet.Goals as goal

pub returns-in-Some : goal.returns-in-Some
returns-in-Some c = met_at c.args.walk.now c.args.tree.now.tree c.loop-head.head c.in-Some.place (record { cell = 0; from = 0; steps = 0 }) c.loop-head.invariant c.loop-head-test.true c.in-Some.ensures

pub loop-head-preserved : goal.loop-head-preserved
loop-head-preserved c = none_more c.args.walk.now c.args.tree.now.tree c.loop-head.head (record { cell = 0; from = 0; steps = 0 }) c.loop-head.invariant c.loop-head-test.true c.in_default.ensures

pub returns : goal.returns
returns c = none_whole c.args.walk.now c.args.tree.now.tree c.loop-head.head c.loop-head.invariant c.loop-head-test.false
