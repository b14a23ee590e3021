-- The steps that images are made of, and what the representation keeps.
use Rattle.std.specs.Prelude.{◌≡◌, ℕ, ◌+◌, ◌%◌, ◌==◌, List, length, All}
use Rattle.pauli_product.specs.declared.Letter.{Letter}
use Rattle.pauli_product.specs.declared.Letter.TheVariants.{I, X, Y, Z}
use Rattle.pauli_product.specs.Signed.{Signed, plus, OfLength, letters_product, phase, real_product}

-- products on as many qubits as there are of them
abbrev pub IsSquare : ℕ → List Signed → Type 0
IsSquare n ps = (length ps ≡ n) × All (OfLength n) ps

-- p times the image of a letter, from the images of X and of Z: a Y is i X Z
abbrev pub times_letter : Letter → Signed → Signed → Signed → Signed
times_letter I x z p = p
times_letter X x z p = real_product p x
times_letter Z x z p = real_product p z
times_letter Y x z p =
    let half_way = letters_product p.letters x.letters in
    record { sign = (1 + phase p x + phase (plus half_way) z) % 4 == 2; letters = letters_product half_way z.letters }
