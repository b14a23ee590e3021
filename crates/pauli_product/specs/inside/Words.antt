-- The letters of 64 qubits in two masks.
use Rattle.std.specs.Prelude.{ℕ, zero, suc, ◌/◌, ◌%◌, ◌==◌, Bool, true, false, List, [], ◌∷◌}
use Rattle.pauli_product.specs.declared.Letter.{Letter}
use Rattle.pauli_product.specs.declared.Letter.TheVariants.{I, X, Y, Z}
use Rattle.pauli_product.specs.declared.word.Word.{Word}

-- the letter whose bit is set in the first mask, in both, or in the second: X, Y or Z
abbrev pub letter_of : Bool → Bool → Letter
letter_of false false = I
letter_of true false = X
letter_of true true = Y
letter_of false true = Z

-- the letters of so many qubits, whose bits are the lowest of two masks
unfoldable pub mask_letters : ℕ → ℕ → ℕ → List Letter
mask_letters zero x z = []
mask_letters (suc n) x z = letter_of (x % 2 == 1) (z % 2 == 1) ∷ mask_letters n (x / 2) (z / 2)

unfoldable pub word_letters : Word → List Letter
word_letters w = mask_letters 64 w.x w.z
