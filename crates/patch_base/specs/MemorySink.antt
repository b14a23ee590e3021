-- A sink in memory, and what a call of it does.
use Rattle.std.specs.Prelude.{ℕ, Bool, ◌-◌, ◌==◌, ◌&&◌, ◌||◌, not, min, if◌then◌else◌, List, ◌++◌, length, take, Option}
use Rattle.patch_base.specs.MemoryShelf.{is_listed, call_after, one_more}

-- what a sink in memory has
pub record Sunk : Type 0 where
  pub bytes : List ℕ
  -- the greatest number of bytes that it holds
  pub room : ℕ
  -- the greatest number of bytes that one call takes
  pub most : ℕ
  pub faults : ℕ
  -- the number of the next call, and None once the numbers of 64 bits are used up
  pub next_call : Option ℕ
  -- the numbers of the calls that are to fail
  pub failing : List ℕ

-- the next call fails for this piece: it is listed, or the piece isn't empty and meets no room
abbrev pub fails_with : Sunk → List ℕ → Bool
fails_with s piece = is_listed s.failing s.next_call || (not (length piece == 0) && s.room - length s.bytes == 0)

-- how many bytes of a piece a call takes
abbrev pub taken_of : Sunk → List ℕ → ℕ
taken_of s piece = min (min (length piece) s.most) (s.room - length s.bytes)

-- the sink after a call with this piece
abbrev pub after_write : Sunk → List ℕ → Sunk
after_write s piece = record s {
  bytes = if fails_with s piece then s.bytes else s.bytes ++ take (taken_of s piece) piece;
  faults = if fails_with s piece then one_more s.faults else s.faults;
  next_call = call_after s.next_call;
}
