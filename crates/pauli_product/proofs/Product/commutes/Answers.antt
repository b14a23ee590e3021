use Rattle.std.proofs.Common.{ℕ, ◌%◌, ◌==◌, length, ap, ap₂, sym, ◌∙◌}
use Rattle.pauli_product.specs.Signed.{clashes, commute}
use Rattle.pauli_product.specs.inside.Masks.{all_letters}
use Rattle.pauli_product.proofs.Masks.{both_shown, same_count, shown_clashes}
use Rattle.pauli_product.proofs.Product.commutes.Goals as goal

pub clash_count-requires-clause-equal : goal.clash_count-requires-clause-equal
clash_count-requires-clause-equal c =
    let both = both_shown c.self.invariant c.other.invariant c.self.view_is c.other.view_is c.requires in
    ap length c.as_slice-2.ensures ∙ same_count both ∙ sym (ap length c.as_slice.ensures)

pub returns : goal.returns
unfolding commute
returns c =
    let both = both_shown c.self.invariant c.other.invariant c.self.view_is c.other.view_is c.requires in
    let same = ap₂ (λ v w. clashes (all_letters v) (all_letters w)) c.as_slice.ensures c.as_slice-2.ensures in
    ap (λ (k : ℕ). k % 2 == 0) (c.clash_count.ensures ∙ same ∙ sym (shown_clashes both))
