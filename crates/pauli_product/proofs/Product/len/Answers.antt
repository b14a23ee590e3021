use Rattle.std.proofs.Common.{sym}
use Rattle.pauli_product.proofs.Masks.{shown_length}
use Rattle.pauli_product.proofs.Product.len.Goals as goal

pub returns-clause-value : goal.returns-clause-value
returns-clause-value c = sym (shown_length c.self.inside.sign c.self.inside.qubits c.self.inside.words.kept.items c.self.invariant c.self.view_is)
