-- Tables of bits.
use Rattle.std.specs.Prelude.{◌≡◌, ℕ, Bool, false, nat_lt, if◌then◌else◌, List, slice_get, Option, Some, None}
use Rattle.board_core.specs.declared.bits.Written.{Written}
use Rattle.board_core.specs.History.{History}
use Rattle.board_core.specs.Legal.{BoardJob}
use Rattle.board_core.specs.inside.BitsNow.{LastWritten}

-- what a measurement leaves of a bit: its outcome, unless a later measurement has written it
abbrev pub after_write : Written → ℕ → Bool → Written
after_write bit by value =
    elim bit.by [ None ↦ record { by = Some by; value = value } | Some last ↦ if nat_lt by last then bit else record { by = Some by; value = value } ]

abbrev pub value_of : Option Written → Bool
value_of None = false
value_of (Some w) = w.value

abbrev pub value_in : List Written → ℕ → Bool
value_in bits b = value_of (slice_get bits b)

abbrev pub BitIs : BoardJob → History → ℕ → Written → Type 0
BitIs j h b w = LastWritten j h b w.by w.value

-- each bit of the table is what the history has written
abbrev pub BitsAre : BoardJob → History → List Written → Type 0
BitsAre j h bits = (b : ℕ) (w : Written) → slice_get bits b ≡ Some w → BitIs j h b w
