use Rattle.pauli_product.proofs.Masks.{shown_letter}
use Rattle.pauli_product.proofs.Product.letter.Goals as goal

pub returns : goal.returns
returns c = shown_letter c.self.inside.sign c.self.inside.qubits c.args.q c.self.inside.words.kept.items c.as_slice.result.now _ c.self.invariant c.self.view_is c.requires c.as_slice.ensures c.letter.ensures
