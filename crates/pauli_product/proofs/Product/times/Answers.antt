use Rattle.std.proofs.Common.{length, ap, sym, ◌∙◌}
use Rattle.pauli_product.specs.Signed.{plus}
use Rattle.pauli_product.proofs.Masks.{both_shown, same_count, multiplied, multiplied_phase}
use Rattle.pauli_product.proofs.Product.times.Goals as goal

pub multiply-power-requires-clause-equal : goal.multiply-power-requires-clause-equal
multiply-power-requires-clause-equal c =
    let both = both_shown c.self.invariant c.other.invariant c.self.view_is c.other.view_is c.requires in
    ap length c.as_slice.ensures ∙ same_count both ∙ sym (ap length c.as_mut_slice.ensures.value)

pub invariant_of-self : goal.invariant_of-self
invariant_of-self c =
    let both = both_shown c.self.invariant c.other.invariant c.self.view_is c.other.view_is c.requires in
    (multiplied _ _ _ both c.as_mut_slice.ensures.value c.as_slice.ensures c.multiply-power.auto.left c.multiply-power.ensures.letters).holds

pub returns-clause-product : goal.returns-clause-product
returns-clause-product c =
    let both = both_shown c.self.invariant c.other.invariant c.self.view_is c.other.view_is c.requires in
    ap plus (multiplied _ _ _ both c.as_mut_slice.ensures.value c.as_slice.ensures c.multiply-power.auto.left c.multiply-power.ensures.letters).letters

pub returns-clause-power : goal.returns-clause-power
returns-clause-power c =
    let both = both_shown c.self.invariant c.other.invariant c.self.view_is c.other.view_is c.requires in
    multiplied_phase _ _ _ _ _ both c.as_mut_slice.ensures.value c.as_slice.ensures c.multiply-power.ensures.power c.from.ensures c.from-2.ensures

pub returns-clause-qubits : goal.returns-clause-qubits
returns-clause-qubits c =
    let both = both_shown c.self.invariant c.other.invariant c.self.view_is c.other.view_is c.requires in
    (multiplied _ _ _ both c.as_mut_slice.ensures.value c.as_slice.ensures c.multiply-power.auto.left c.multiply-power.ensures.letters).qubits
