-- Tables of numbers: what stands at a place, and 0 past the end.
use Rattle.std.specs.Prelude.{ℕ, ◌-◌, max, map, if◌then◌else◌, List, length, slice_set, slice_index, slice_index_or, nat_lt, Option, Some, None}
use Rattle.slice_write.specs.Slices.{greatest}

-- the greatest of the slices that stand at these places
abbrev pub greatest_at : List ℕ → List ℕ → ℕ
greatest_at table places = greatest (map (λ c. slice_index table c) places)

-- no less than this stands at the place
abbrev pub raised : List ℕ → ℕ → ℕ → List ℕ
raised table i n = slice_set table i (max n (slice_index table i))

abbrev pub raised_if : List ℕ → Option ℕ → ℕ → List ℕ
raised_if table None n = table
raised_if table (Some i) n = raised table i n

-- the slice of the step that made the state
abbrev pub made_by : List ℕ → Option ℕ → ℕ
made_by made None = 0
made_by made (Some s) = slice_index made s

-- the slice of the claim that made room for a run of a factory with these states
abbrev pub room_of : List ℕ → List ℕ → ℕ → ℕ
room_of taken own store = if nat_lt (length own) store then 0 else slice_index taken (slice_index_or own (length own - store) 0)
