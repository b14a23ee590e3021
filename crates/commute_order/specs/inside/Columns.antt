-- Columns of bits: for each qubit, which products have a letter there that clashes with a given one.
use Rattle.std.specs.Prelude.{◌≡◌, ℕ, ◌<◌, Bool, false, ◌&&◌, nat_lt, List, [], length, slice_index_or}
use Rattle.pauli_product.specs.declared.Letter.{Letter}
use Rattle.pauli_product.specs.declared.Letter.TheVariants.{I, X, Y, Z}
use Rattle.pauli_product.specs.Letters.{letters_clash}
use Rattle.pauli_product.specs.Signed.{Signed, plus}
use Rattle.pauli_product.specs.Corrections.{xor}

-- the letter of product j at qubit q
abbrev pub letter_in : List Signed → ℕ → ℕ → Letter
letter_in ps j q = slice_index_or (slice_index_or ps j (plus [])).letters q I

-- bit j of column q says whether product j, one of the first `count`, clashes with the letter at qubit q
pub record IsColumns (against : Letter) (ps : List Signed) (count qubits len : ℕ) (columns : List (List Bool)) : Type 0 where
  pub size : length columns ≡ qubits
  pub long : (q : ℕ) → q < qubits → length (slice_index_or columns q []) ≡ len
  pub bit : (q j : ℕ) → q < qubits → j < len → slice_index_or (slice_index_or columns q []) j false ≡ (nat_lt j count && letters_clash against (letter_in ps j q))

-- whether a letter clashes, from whether X does and whether Z does
abbrev pub clash_bit : Letter → Bool → Bool → Bool
clash_bit I x z = false
clash_bit X x z = x
clash_bit Z x z = z
clash_bit Y x z = xor x z
