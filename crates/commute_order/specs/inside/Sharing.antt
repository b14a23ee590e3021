-- The writers of bits, and the rows in which products that share a bit are marked.
use Rattle.std.specs.Prelude.{◌≡◌, ℕ, ◌+◌, ◌==◌, ◌<◌, Bool, ◌&&◌, ◌||◌, List, [], length, slice_index_or, Some, Contains, All}
use Rattle.commute_order.specs.declared.Uses.{Uses}
use Rattle.commute_order.specs.declared.sharing.Writer.{Writer}
use Rattle.commute_order.specs.Commuting.{reads_from}

-- one reads a bit that the other writes
unfoldable pub shares_bit : Uses → Uses → Bool
shares_bit u v = reads_from u v || reads_from v u

-- writers of the bits that their products write, among them each of the first `count`
pub record ListsWriters (us : List Uses) (count : ℕ) (writers : List Writer) : Type 0 where
  pub writes : All (λ w. (w.product < length us) × ((d : Uses) → (slice_index_or us w.product d).write ≡ Some w.bit)) writers
  pub each : (p bit : ℕ) (d : Uses) → p < count → (slice_index_or us p d).write ≡ Some bit → Contains writers (record { bit = bit; product = p })

-- each row has a place for each product up to its own
abbrev pub IsTriangle : List (List Bool) → Type 0
IsTriangle rows = (p : ℕ) → p < length rows → length (slice_index_or rows p []) ≡ p + 1

-- whether one of p and j is r, and the other passes the test
abbrev pub pair_with : (ℕ → Bool) → ℕ → ℕ → ℕ → Bool
pair_with test r p j = ((j == r) && test p) || ((p == r) && test j)
