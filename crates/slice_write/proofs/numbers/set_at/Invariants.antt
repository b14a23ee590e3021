use Rattle.std.proofs.Common.{◌≡◌, ◌<◌, ℕ, length, take, get_or}
use Rattle.std.specs.Prelude.{if◌then◌else◌}
use Rattle.slice_write.specs.Slices.{is_among}
use Rattle.slice_write.proofs.numbers.set_at.Given as goal

abbrev pub invariant-loop-cell : goal.invariant-loop-cell
invariant-loop-cell l = (c : ℕ) → c < length l.initial.table → get_or l.table c 0 ≡ (if is_among (take l.cell-index l.cells) c then l.slice else get_or l.initial.table c 0)
