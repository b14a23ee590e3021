-- When products that read and write bits commute.
use Rattle.std.specs.Prelude.{ℕ, Bool, false, ◌+◌, ◌==◌, ◌&&◌, not, nat_le, nat_lt, Option, Some, None}
use Rattle.pauli_product.specs.Signed.{Signed, commute}

-- the bits that a product reads, and the bit that it writes, if there is one
pub record BitUses : Type 0 where
  pub reads : ℕ → Bool
  pub write : Option ℕ

-- a bit is one of so many from a first one on
abbrev pub is_among : ℕ → ℕ → ℕ → Bool
is_among first size bit = nat_le first bit && nat_lt bit (first + size)

-- this bit is the one that is written
abbrev pub is_written : Option ℕ → ℕ → Bool
is_written None bit = false
is_written (Some written) bit = written == bit

-- the bit that is written, if there is one, is read
abbrev pub is_read : (ℕ → Bool) → Option ℕ → Bool
is_read reads None = false
is_read reads (Some bit) = reads bit

-- the first reads the bit that the second writes
abbrev pub reads_from : BitUses → BitUses → Bool
reads_from u v = is_read u.reads v.write

-- products commute where their axes do and neither reads the bit that the other writes
abbrev pub commuting : Signed → BitUses → Signed → BitUses → Bool
commuting p u q v = commute p q && not (reads_from u v) && not (reads_from v u)
