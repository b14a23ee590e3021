use Rattle.patch_layout.specs.Spread.{InQueue, NoneBefore}
use Rattle.region_plan.proofs.walk.meet.Given as goal

abbrev pub invariant-loop-head : goal.invariant-loop-head
invariant-loop-head l = NoneBefore (InQueue l.tree.tree) l.walk l.head
