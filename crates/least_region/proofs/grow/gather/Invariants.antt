use Rattle.std.proofs.Common.{◌≡◌, ℕ, ◌<◌, slice_get, Some, length}
use Rattle.least_region.specs.inside.Growth.{Pending}
use Rattle.least_region.proofs.grow.gather.Given as goal

abbrev pub invariant-loop-cell : goal.invariant-loop-cell
invariant-loop-cell l =
    ((k c : ℕ) → slice_get l.queue.items k ≡ Some c → c < length l.row)
    × ((c v : ℕ) → c < l.cell → slice_get l.row c ≡ Some v → v < l.limit → Pending l.queue.items 0 c)
