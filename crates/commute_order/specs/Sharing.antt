-- Rows of marks.
use Rattle.std.specs.Prelude.{ℕ, Bool, false, List, [], slice_index_or}

-- whether product j is marked in the row of p
abbrev pub mark : List (List Bool) → ℕ → ℕ → Bool
mark rows p j = slice_index_or (slice_index_or rows p []) j false
