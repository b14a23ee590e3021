-- Whether bits spell a number, by its halves.
use Rattle.std.proofs.Common.{◌≡◌, ℕ, suc, Bool, ◌+◌, ◌*◌, ◌/◌, ◌%◌, ◌==◌, if◌then◌else◌, arith}
use Rattle.std.proofs.lemmas.Bool.Decides.{nat_tests}
use Rattle.pauli_product.specs.Bits.{number_of}

halved : (b : Bool) (m rest : ℕ) → b ≡ (rest % 2 == 1) → ((if b then 1 else 0) + 2 * m == rest) ≡ (m == rest / 2)
halved b m rest e = grind (arith, nat_tests)

pub rest_spells : (f : ℕ → Bool) (k n rest : ℕ) → f k ≡ (rest % 2 == 1) → (number_of f k (suc n) == rest) ≡ (number_of f (k + 1) n == rest / 2)
rest_spells f k n rest e = halved (f k) (number_of f (k + 1) n) rest e
