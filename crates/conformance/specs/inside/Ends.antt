-- How a text ends.
use Rattle.std.specs.Prelude.{◌≡◌, ◌≤◌, ◌-◌, ℕ, List, length, slice_range}

-- the last bytes of the text are these
abbrev pub EndsIn : List ℕ → List ℕ → Type 0
EndsIn text end =
    (length end ≤ length text)
    × (slice_range text (length text - length end) (length text) ≡ end)
