use Rattle.std.proofs.Common.{◌≡◌, ◌<◌, ℕ, length, get_or}
use Rattle.std.specs.Prelude.{flat_map}
use Rattle.slice_write.specs.Slices.{upto}
use Rattle.slice_write.specs.Pictures.{piece, nobody}
use Rattle.slice_write.proofs.drawing.Drawing.new.Given as goal

abbrev pub invariant-loop-cell : goal.invariant-loop-cell
invariant-loop-cell l = record {
  text : l.blank.items ≡ flat_map (piece l.layout nobody) (upto l.cell);
  size : length l.starts.items ≡ l.cell;
  starts : (c : ℕ) → c < l.cell → get_or l.starts.items c 0 ≡ length (flat_map (piece l.layout nobody) (upto c));
}
