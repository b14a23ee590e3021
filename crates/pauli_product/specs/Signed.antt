-- Signed Pauli products as a sign and a letter for each qubit.
use Rattle.std.specs.Prelude.{◌≡◌, ◌≢◌, ℕ, Bool, true, false, ◌+◌, ◌%◌, ◌==◌, ◌<◌, if◌then◌else◌, List, [], ◌∷◌, length, slice_get, slice_index_or, Some}
use Rattle.pauli_product.specs.declared.Letter.{Letter}
use Rattle.pauli_product.specs.declared.Letter.TheVariants.{I}
use Rattle.pauli_product.specs.Letters.{letter_product, letter_phase, letters_clash}

-- a sign, which is true for a minus, and the letter of each qubit
pub record Signed : Type 0 where
  pub sign : Bool
  pub letters : List Letter

-- these letters with sign +
abbrev pub plus : List Letter → Signed
plus ls = record { sign = false; letters = ls }

-- and with sign -
abbrev pub minus : List Letter → Signed
minus ls = record { sign = true; letters = ls }

-- letter by letter
abbrev pub letters_product : List Letter → List Letter → List Letter
letters_product [] bs = []
letters_product (a ∷ as') [] = []
letters_product (a ∷ as') (b ∷ bs) = letter_product a b ∷ letters_product as' bs

-- the powers of i, added
abbrev pub letters_phase : List Letter → List Letter → ℕ
letters_phase [] bs = 0
letters_phase (a ∷ as') [] = 0
letters_phase (a ∷ as') (b ∷ bs) = letter_phase a b + letters_phase as' bs

-- on how many qubits both letters are other than I and differ
abbrev pub clashes : List Letter → List Letter → ℕ
clashes [] bs = 0
clashes (a ∷ as') [] = 0
clashes (a ∷ as') (b ∷ bs) = (if letters_clash a b then 1 else 0) + clashes as' bs

-- two products commute where they clash on an even number of qubits
unfoldable pub commute : Signed → Signed → Bool
commute p q = clashes p.letters q.letters % 2 == 0

-- a sign as a power of i
abbrev pub sign_phase : Bool → ℕ
sign_phase b = if b then 2 else 0

-- the product p q is i to this power times the letters' product with sign +
abbrev pub phase : Signed → Signed → ℕ
phase p q = (sign_phase p.sign + sign_phase q.sign + letters_phase p.letters q.letters) % 4

-- the product of two products that commute: a real product
abbrev pub real_product : Signed → Signed → Signed
real_product p q = record { sign = phase p q == 2; letters = letters_product p.letters q.letters }

-- a product on n qubits
abbrev pub OfLength : ℕ → Signed → Type 0
OfLength n p = length p.letters ≡ n

-- the letter of a qubit, and I past the last one
abbrev pub letter_at : Signed → ℕ → Letter
letter_at p q = slice_index_or p.letters q I

-- the support: the qubits with a letter other than I
pub record IsInSupport (p : Signed) (q : ℕ) : Type 0 where
  pub within : q < length p.letters
  pub other : letter_at p q ≢ I

abbrev pub IsOutside : Signed → ℕ → Type 0
IsOutside p q = letter_at p q ≡ I

-- the letter of the qubit is there, and other than I
abbrev pub HasLetter : Signed → ℕ → Type 0
HasLetter p q = (l : Letter) × (slice_get p.letters q ≡ Some l) × (l ≢ I)

-- some letter is other than I
abbrev pub IsNotIdentity : Signed → Type 0
IsNotIdentity p = (q : ℕ) × HasLetter p q
