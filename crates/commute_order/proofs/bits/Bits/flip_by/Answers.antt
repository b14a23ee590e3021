use Rattle.std.proofs.Common.{ℕ, ◌<◌, false, List, length, get_or, ap, sym, ◌∙◌, arith}
use Rattle.std.specs.Int.RustNames.{bit_xor}
use Rattle.std.proofs.lemmas.List.{with_items_is}
use Rattle.pauli_product.specs.Corrections.{xor}
use Rattle.commute_order.specs.inside.Words.{bits_from}
use Rattle.commute_order.proofs.BitLists.{length_bits, bits_flipped}
use Rattle.commute_order.proofs.bits.Bits.flip_by.Goals as goal

pub flip_words-requires : goal.flip_words-requires
flip_words-requires c =
    omega (
      arith,
      ap length c.deref_mut.ensures.value,
      ap length c.deref.ensures.value,
      ap length c.self.view_is,
      ap length c.other.view_is,
      length_bits c.self.inside.words.items 0 c.self.inside.len,
      length_bits c.other.inside.words.items 0 c.other.inside.len,
      c.self.invariant.tight,
      c.other.invariant.all,
    )

pub returns-clause-size : goal.returns-clause-size
returns-clause-size c =
    length_bits _ 0 c.self.inside.len ∙ sym (length_bits c.self.inside.words.items 0 c.self.inside.len) ∙ ap length c.self.view_is

pub returns-clause-bits : goal.returns-clause-bits
returns-clause-bits c = λ j h.
    let words = c.self.inside.words.items in
    let other = c.other.inside.words.items in
    let new = c.flip_words.new.words in
    let n = c.self.inside.len in
    let m = c.other.inside.len in
    let mine = c.deref_mut.ensures.value in
    let yours = c.deref.ensures.value in
    let here : j < n = omega (arith, ap length c.self.view_is, length_bits words 0 n) in
    let there : j < m = omega (arith, ap length c.other.view_is, length_bits other 0 m) in
    let new_is = with_items_is c.self.inside.words new (c.flip_words.ensures.size ∙ ap length mine ∙ sym c.self.inside.words.ok.0) in
    ap (λ (ws : List ℕ). get_or (bits_from ws 0 n) j false) new_is
    ∙ bits_flipped words other new n m j here there
    (λ k l. c.flip_words.ensures.flipped k (omega (arith, ap length mine)) ∙ (λ i. bit_xor (get_or (mine i) k 0) (get_or (yours i) k 0)))
    c.self.invariant.all
    ∙ (λ i. xor (get_or (c.self.view_is i) j false) (get_or (c.other.view_is i) j false))
