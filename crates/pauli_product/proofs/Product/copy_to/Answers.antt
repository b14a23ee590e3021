use Rattle.std.proofs.Common.{ℕ, List, length, ap, ap₂, sym, ◌∙◌}
use Rattle.pauli_product.specs.declared.word.Word.{Word}
use Rattle.pauli_product.proofs.Masks.{both_shown, same_count, same_qubits, refilled, shown}
use Rattle.pauli_product.proofs.Product.copy_to.Goals as goal

pub copy_from_slice-requires : goal.copy_from_slice-requires
copy_from_slice-requires c =
    let both = both_shown c.self.invariant c.into.invariant c.self.view_is c.into.view_is c.requires in
    ap length c.as_mut_slice.ensures.value ∙ same_count both ∙ sym (ap length c.as_slice.ensures)

pub returns : goal.returns
returns c =
    let both = both_shown c.self.invariant c.into.invariant c.self.view_is c.into.view_is c.requires in
    let count = c.copy_from_slice.ensures.len ∙ ap length c.as_mut_slice.ensures.value in
    let words = refilled c.into.inside.words.kept.items c.copy_from_slice.new.self count ∙ c.copy_from_slice.ensures.after ∙ c.as_slice.ensures in
    ap₂ (λ (n : ℕ) (ws : List Word). shown c.self.inside.sign n ws) (same_qubits both) words ∙ c.self.view_is
