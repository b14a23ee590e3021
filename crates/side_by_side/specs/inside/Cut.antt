-- Letters that are copied from the first one on.
use Rattle.std.specs.Prelude.{ℕ, suc, zero, List, [], ◌∷◌}
use Rattle.pauli_product.specs.declared.Letter.{Letter}
use Rattle.pauli_product.specs.declared.Letter.TheVariants.{I}

-- the first n letters, and I for the others
abbrev pub cut : ℕ → List Letter → List Letter
cut n [] = []
cut zero (l ∷ ls) = I ∷ cut zero ls
cut (suc n) (l ∷ ls) = l ∷ cut n ls
