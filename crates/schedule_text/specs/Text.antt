-- The text of a history: a header, a line for each entry, and a line for each register's bits.
use Rattle.std.specs.Prelude.{◌≡◌, ◌≤◌, ◌<◌, ◌^◌, ℕ, zero, suc, Bool, false, ◌+◌, slice_index_or, List, [], ◌∷◌, ◌++◌, map, flat_map, codes, decimal, Option, Some, None, IfSome, All}
use Rattle.patch_base.specs.Texts.{spaced, digit}
use Rattle.pauli_product.specs.Spelling.{product_text}
use Rattle.source_model.specs.declared.Given.{Given}
use Rattle.source_model.specs.declared.Given.TheVariants as given
use Rattle.source_model.specs.declared.Register.{Register}
use Rattle.source_model.specs.Circuits.{IsOneLine, FirstsRunOn, bits_in}
use Rattle.board_core.specs.declared.Noted.{Noted}
use Rattle.board_core.specs.declared.Entry.{Entry}
use Rattle.board_core.specs.declared.Entry.TheVariants.{Claim, Deliver, Release, Step, Settle}

abbrev pub optional : Option ℕ → List ℕ
optional None = codes "-"
optional (Some n) = decimal n

abbrev pub outcome_words : Given → List (List ℕ)
outcome_words (given.Rotation raw x) = digit raw ∷ digit x ∷ []
outcome_words (given.Measure raw) = digit raw ∷ []
outcome_words given.Settled = []

abbrev pub entry_words : Entry → List (List ℕ)
entry_words (Claim p axis port state cells) = codes "C" ∷ decimal p ∷ product_text axis ∷ optional port ∷ optional state ∷ map decimal cells
entry_words (Deliver p g) = codes "D" ∷ decimal p ∷ outcome_words g
entry_words (Release p) = codes "R" ∷ decimal p ∷ []
entry_words (Step f) = codes "S" ∷ decimal f ∷ []
entry_words (Settle p flip) = codes "T" ∷ decimal p ∷ digit flip ∷ []

-- the two versions of the text: the second names the worker of each entry
pub data Version : Type 0 where
  one : Version
  two : Version

abbrev pub header_line : Version → List ℕ
header_line one = codes "schedule 1"
header_line two = codes "schedule 2"

abbrev pub entry_line : Version → Noted → List ℕ
entry_line one n = spaced (entry_words n.entry)
entry_line two n = spaced (decimal n.by ∷ entry_words n.entry)

-- the number of the worker that made the entry is one that a text may have
abbrev pub HasNumber : Noted → Type 0
HasNumber n = n.by ≤ 63

-- the digits of so many bits from the first on, the highest index first
abbrev pub digits : (ℕ → Bool) → ℕ → ℕ → List ℕ
digits bit first zero = []
digits bit first (suc size) = digits bit (first + 1) size ++ digit (bit first)

abbrev pub bits_line : (ℕ → Bool) → Register → List ℕ
bits_line bit r = codes "bits " ++ r.name ++ codes " " ++ digits bit r.first r.size

abbrev pub ended : List ℕ → List ℕ
ended line = line ++ 10 ∷ []

-- bit b of a list of bits; a bit past its end is 0
abbrev pub bit_in : List Bool → ℕ → Bool
bit_in bits b = slice_index_or bits b false

-- the lines of the registers' bits
abbrev pub bits_text : List Register → (ℕ → Bool) → List ℕ
bits_text registers bit = flat_map ended (map (bits_line bit) registers)

-- the lines of a text, without their line feeds
abbrev pub lines_of : Version → List Noted → List Register → (ℕ → Bool) → List (List ℕ)
lines_of v h registers bit = header_line v ∷ map (entry_line v) h ++ map (bits_line bit) registers

abbrev pub text_of : Version → List Noted → List Register → (ℕ → Bool) → List ℕ
text_of v h registers bit = flat_map ended (lines_of v h registers bit)

-- each number is one of 32 bits
abbrev pub IsNumber : ℕ → Type 0
IsNumber n = n < 2 ^ 32

abbrev pub HasNumbers : Entry → Type 0
HasNumbers (Claim p axis port state cells) = IsNumber p × IfSome port IsNumber × IfSome state IsNumber × All IsNumber cells
HasNumbers (Deliver p g) = IsNumber p
HasNumbers (Release p) = IsNumber p
HasNumbers (Step f) = IsNumber f
HasNumbers (Settle p flip) = IsNumber p

-- a version that can name the entry
abbrev pub Nameable : Version → Noted → Type 0
Nameable one n = n.by ≡ 0
Nameable two n = HasNumber n

-- an entry as a text of that version may have it
abbrev pub Prints : Version → Noted → Type 0
Prints v n = Nameable v n × HasNumbers n.entry

-- a text tells its version, its history and the registers' bits
abbrev pub TextTellsAll : Type 0
TextTellsAll =
    (v w : Version) (h k : List Noted) (registers : List Register) (a b : ℕ → Bool)
    → All (Prints v) h → All (Prints w) k → All (λ r. IsOneLine r.name) registers → FirstsRunOn 0 registers
    → text_of v h registers a ≡ text_of w k registers b
    → (v ≡ w) × (h ≡ k) × ((i : ℕ) → i < bits_in registers → a i ≡ b i)
