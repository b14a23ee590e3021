use Rattle.std.proofs.Common.{ℕ, ◌<◌}
use Rattle.patch_layout.specs.Spread.{Marked}
use Rattle.patch_layout.proofs.openness.unseen_cell.Given as goal

abbrev pub invariant-loop-cell : goal.invariant-loop-cell
invariant-loop-cell l = (m : ℕ) → m < l.cell → Marked l.free m → Marked l.seen m
