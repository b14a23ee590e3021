-- Whether a product reads a bit.
use Rattle.std.specs.Prelude.{ℕ, Bool, Option}
use Rattle.pauli_product.specs.Commuting.{is_read}
use Rattle.commute_order.specs.declared.Uses.{Uses}
use Rattle.commute_order.specs.Commuting.{bits_of}

-- whether the first reads the bit that is written
abbrev pub reads_bit : Uses → Option ℕ → Bool
reads_bit u write = is_read (bits_of u).reads write
