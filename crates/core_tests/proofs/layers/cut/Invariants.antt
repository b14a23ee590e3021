use Rattle.std.proofs.Common.{◌≡◌, length, All}
use Rattle.pauli_product.specs.Signed.{OfLength}
use Rattle.core_tests.proofs.layers.cut.Given as goal

abbrev pub invariant-loop-axis : goal.invariant-loop-axis
invariant-loop-axis l = All (OfLength 3) l.products.items × (length l.products.items ≡ l.axis-index)
