-- Lists of truth values, 64 to a word, and what is open in them.
use Rattle.std.specs.Prelude.{◌≡◌, ℕ, zero, suc, ◌+◌, ◌*◌, ◌/◌, ◌%◌, ◌==◌, ◌<◌, ◌≤◌, Bool, true, false, List, [], ◌∷◌, length, slice_index, slice_index_or}
use Rattle.std.specs.Int.{bit_at}

-- bit number i of a list of words
abbrev pub bit_in_words : List ℕ → ℕ → Bool
bit_in_words words i = bit_at (slice_index words (i / 64)) (i % 64) == 1

-- n bits, from number i on
abbrev pub bits_from : List ℕ → ℕ → ℕ → List Bool
bits_from words i zero = []
bits_from words i (suc n) = bit_in_words words i ∷ bits_from words (suc i) n

-- so many words hold n bits
pub record Holds (n : ℕ) (words : List ℕ) : Type 0 where
  pub all : n ≤ 64 * length words
  pub tight : 64 * length words < n + 64

-- j is in one list and not in the other
pub record IsOpen (row done : List Bool) (j : ℕ) : Type 0 where
  pub set : slice_index_or row j false ≡ true
  pub undone : slice_index_or done j false ≡ false

-- the first ones, so many, are set
pub record IsSetTo (n : ℕ) (bits : List Bool) : Type 0 where
  pub within : n ≤ length bits
  pub set : (j : ℕ) → j < n → slice_index_or bits j false ≡ true
