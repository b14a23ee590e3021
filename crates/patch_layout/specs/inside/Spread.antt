-- The end of a breadth-first walk.
use Rattle.std.specs.Prelude.{ℕ, Bool, true, false, ◌&&◌, not, length, slice_index_or, List}
use Rattle.patch_layout.specs.declared.walk.Reached.{Reached}
use Rattle.patch_layout.specs.Grid.{Grid}
use Rattle.patch_layout.specs.Spread.{Marked, Spread}

-- the walk came to its end: each cell in the queue has all its free neighbours there
abbrev pub Ended : Grid → List Bool → List ℕ → List Reached → List Bool → Type 0
Ended g free starts queue seen = Spread g (Marked free) starts queue (length queue) seen

-- whether a cell is free and not seen yet
abbrev pub is_new : List Bool → List Bool → ℕ → Bool
is_new free seen c = slice_index_or free c false && not (slice_index_or seen c true)
