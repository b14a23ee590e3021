use Rattle.std.proofs.Common.{◌<◌, ◌≤◌, ℕ, length, get_or}
use Rattle.slice_write.specs.declared.placed.Placed.{Placed}
use Rattle.slice_write.proofs.clashes.place.Given as goal

abbrev pub invariant-loop-at : goal.invariant-loop-at
invariant-loop-at l = (l.at ≤ length l.placed.items) × ((k : ℕ) (d : Placed) → l.at ≤ k → k < length l.placed.items → l.more.slice ≤ (get_or l.placed.items k d).slice)

abbrev pub decreases-loop-at : goal.decreases-loop-at
decreases-loop-at l = l.at
