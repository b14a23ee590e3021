use Rattle.std.proofs.Common.{◌≡◌, length, All}
use Rattle.pauli_product.specs.Signed.{OfLength}
use Rattle.commute_order.proofs.tests.products.Given as goal

abbrev pub invariant-loop-letter : goal.invariant-loop-letter
invariant-loop-letter l = All (OfLength 1) l.products.items × (length l.products.items ≡ l.letter-index)
