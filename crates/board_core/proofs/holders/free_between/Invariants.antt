use Rattle.std.proofs.Common.{◌≡◌, ℕ, ◌<◌, ◌≤◌, length, slice_get, option_map}
use Rattle.board_core.specs.inside.Cells.{without}
use Rattle.board_core.proofs.holders.free_between.Given as goal

abbrev pub invariant-loop-cell : goal.invariant-loop-cell
invariant-loop-cell l = record {
  size : length l.holders ≡ length l.initial.holders;
  reached : l.first < l.cell → l.cell ≤ l.end;
  freed : (c : ℕ) → l.first ≤ c → c < l.cell → slice_get l.holders c ≡ option_map (without l.by) (slice_get l.initial.holders c);
  before : (c : ℕ) → c < l.first → slice_get l.holders c ≡ slice_get l.initial.holders c;
  after : (c : ℕ) → l.cell ≤ c → slice_get l.holders c ≡ slice_get l.initial.holders c;
}
