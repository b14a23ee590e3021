use Rattle.std.proofs.lemmas.List.Elements.{All-nil}
use Rattle.pauli_product.specs.Signed.{OfLength}
use Rattle.static_products.proofs.Pulling.{all_long}
use Rattle.static_products.proofs.needs.need.Goals as goal

pub used_qubits-requires : goal.used_qubits-requires
used_qubits-requires c = all_long c.args.circuit.now.qubits c.args.circuit.now.items c.args.products.now (All-nil (λ t. OfLength c.args.circuit.now.qubits t.axis)) c.requires.well_formed.axes_fit c.requires.products
