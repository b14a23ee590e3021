use Rattle.std.proofs.Common.{◌+◌, ◌-◌, length}
use Rattle.patch_layout.specs.Spread.{unseen}
use Rattle.region_plan.proofs.Seeking.{Seeking}
use Rattle.region_plan.proofs.walk.seek.Given as goal

abbrev pub invariant-loop-head : goal.invariant-loop-head
invariant-loop-head l = Seeking l.layout l.held l.fn.pair l.tree.tree l.queue.items l.head l.seen

abbrev pub decreases-loop-head : goal.decreases-loop-head
decreases-loop-head l = length l.queue.items + unseen l.seen - l.head
