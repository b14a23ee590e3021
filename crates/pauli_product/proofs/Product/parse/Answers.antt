use Rattle.std.proofs.Common.{◌≡◌, ◌++◌, length, ap, sym, ◌∙◌, subst, arith}
use Rattle.std.proofs.lemmas.Slice.{first_rest}
use Rattle.pauli_product.specs.Signed.{Signed}
use Rattle.pauli_product.specs.Spelling.{Spells}
use Rattle.pauli_product.proofs.Texts.{length_letters, spelled_length}
use Rattle.pauli_product.proofs.Product.parse.Goals as goal
use Rattle.pauli_product.proofs.Product.parse.Goals.{then-text-lt2-via-then-text-lt2, then-text-lt2-via-else-text-lt2+then-text-gt-MOST_BYTES}

pub returns-then-text-lt2-clause-exact : goal.returns-then-text-lt2-clause-exact
returns-then-text-lt2-clause-exact c = λ p h.
    elim c.then-text-lt2.branch [
      | then-text-lt2-via-then-text-lt2 w ↦ absurd (omega (arith, spelled_length p h.spelled, h.some))
      | then-text-lt2-via-else-text-lt2+then-text-gt-MOST_BYTES w ↦ absurd (omega (arith, spelled_length p h.spelled, h.few))
    ]

pub new-requires : goal.new-requires
new-requires c =
    let read = rw c.in-Some-2.is at c.in_ok-letters.ensures.some in
    omega (arith, ap length c.deref.ensures.value, ap length read, length_letters c.in-Some-2.letters.items)

pub returns-clause-spelled : goal.returns-clause-spelled
returns-clause-spelled c =
    let read = rw c.in-Some-2.is at c.in_ok-letters.ensures.some in
    let first = first_rest c.args.text.now 0 (omega arith) in
    let made : record { sign = c.in-Some.sign; letters = c.in-Some-2.letters.items } ≡ c.in_ok-new.field-0 = ap (λ ls. record { sign = c.in-Some.sign; letters = ls }) (sym c.deref.ensures.value) ∙ sym c.in_ok-new.ensures in
    let P : Signed → Type 0 = λ p. Spells c.args.text.now p in
    subst P made (record {
      spelled = first ∙ (λ i. sym c.in-Some.ensures.some i ++ read i);
      some = omega (arith, ap length read, length_letters c.in-Some-2.letters.items);
      few = omega (arith, ap length read, length_letters c.in-Some-2.letters.items);
    })
