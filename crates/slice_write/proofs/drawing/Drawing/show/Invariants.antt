use Rattle.std.proofs.Common.{ℕ, take}
use Rattle.std.specs.Prelude.{Option, All}
use Rattle.patch_layout.specs.Grid.{Grid}
use Rattle.slice_write.specs.inside.Marks.{mark_at, IsNarrow}
use Rattle.slice_write.specs.inside.Pages.{Draws}
use Rattle.slice_write.proofs.drawing.Drawing.show.Given as goal

abbrev pub invariant-loop-mark : goal.invariant-loop-mark
invariant-loop-mark l = (g : Grid) (shown : ℕ → Option ℕ) → Draws g shown l.fn.self → All (IsNarrow g) l.marks → Draws g (mark_at (take l.mark-index l.marks)) l.self
