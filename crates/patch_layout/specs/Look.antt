-- What a new look has.
use Rattle.std.specs.Prelude.{ℕ, false, replicate}
use Rattle.pauli_product.specs.declared.Letter.TheVariants as letter
use Rattle.pauli_product.specs.Signed.{Signed}

-- the product of n letters I with sign +
abbrev pub identity : ℕ → Signed
identity n = record { sign = false; letters = replicate n letter.I }
