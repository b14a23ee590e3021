-- A signed product as text: its sign, and a letter for each qubit, the first one first.
use Rattle.std.specs.Prelude.{◌≡◌, ℕ, Bool, ◌≤◌, if◌then◌else◌, List, ◌++◌, length, flat_map, codes}
use Rattle.pauli_product.specs.declared.Letter.{Letter}
use Rattle.pauli_product.specs.declared.Letter.TheVariants.{I, X, Y, Z}
use Rattle.pauli_product.specs.Signed.{Signed}

abbrev pub sign_text : Bool → List ℕ
sign_text minus = if minus then codes "-" else codes "+"

abbrev pub letter_text : Letter → List ℕ
letter_text I = codes "I"
letter_text X = codes "X"
letter_text Y = codes "Y"
letter_text Z = codes "Z"

abbrev pub product_text : Signed → List ℕ
product_text p = sign_text p.sign ++ flat_map letter_text p.letters

-- the text is that of a product with 1 to 1,024 letters
pub record Spells (text : List ℕ) (p : Signed) : Type 0 where
  pub spelled : text ≡ product_text p
  pub some : 1 ≤ length p.letters
  pub few : length p.letters ≤ 1024
