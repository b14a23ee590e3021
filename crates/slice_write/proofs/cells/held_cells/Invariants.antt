use Rattle.std.proofs.Common.{◌≡◌, ℕ, ◌||◌}
use Rattle.std.specs.Prelude.{slice_get}
use Rattle.slice_write.specs.Slices.{is_among}
use Rattle.slice_write.proofs.Sites.{holds_below}
use Rattle.slice_write.proofs.cells.held_cells.Given as goal

abbrev pub invariant-loop-q : goal.invariant-loop-q
invariant-loop-q l = (c : ℕ) → is_among l.into.items c ≡ (is_among l.region c || holds_below l.axis l.q (slice_get l.layout.sites c))
