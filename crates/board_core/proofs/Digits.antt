-- The digits of a number, bit by bit.
use Rattle.std.proofs.Common.{◌≡◌, inl, inr, ℕ, suc, ◌+◌, ◌-◌, ◌/◌, ◌%◌, ◌<◌, Bool, true, false, not, ◌==◌, List, length, get_or, refl, ap, sym, ◌∙◌, arith, eq-eqb, ne_eqb, eqb-true}
use Rattle.std.proofs.lemmas.Bool.{cases_Bool, eqb-false, true≢false}
use Rattle.pauli_product.specs.Bits.{number_of}
use Rattle.std.specs.Bool.{beq}
use Rattle.std.proofs.lemmas.Option.{slice_get-get_or}
use Rattle.board_core.specs.declared.bits.Written.{Written}
use Rattle.board_core.specs.inside.Bits.{value_of, value_in}
use Rattle.board_core.proofs.Counting.{one_if}

same_tests : (a b c d : ℕ) → (a ≡ b → c ≡ d) → (c ≡ d → a ≡ b) → (a == b) ≡ (c == d)
same_tests a b c d f g =
    elim (cases_Bool (a == b)) [
      | inl e ↦ e ∙ sym (eq-eqb c d (f (eqb-true a b e)))
      | inr e ↦ e ∙ sym (ne_eqb c d (λ x. eqb-false a b e (g x)))
    ]

-- one bit that agrees
pub digit_agrees : (bits : ℕ → Bool) (at size rest : ℕ) → bits at ≡ (rest % 2 == 1) → (number_of bits at (suc size) == rest) ≡ (number_of bits (at + 1) size == rest / 2)
digit_agrees bits at size rest e = go (bits at) refl
  where
    go : (b : Bool) → bits at ≡ b → (number_of bits at (suc size) == rest) ≡ (number_of bits (at + 1) size == rest / 2)
    go true f =
        let odd = eqb-true (rest % 2) 1 (sym e ∙ f) in
        let one : one_if (bits at) ≡ 1 = ap one_if f in
        same_tests (number_of bits at (suc size)) rest (number_of bits (at + 1) size) (rest / 2) (λ x. omega arith) (λ x. omega arith)
    go false f =
        let even = eqb-false (rest % 2) 1 (sym e ∙ f) in
        let none : one_if (bits at) ≡ 0 = ap one_if f in
        same_tests (number_of bits at (suc size)) rest (number_of bits (at + 1) size) (rest / 2) (λ x. omega arith) (λ x. omega arith)

-- a step of the test from one bit on
pub spells_on : (bits : ℕ → Bool) (first size value at rest : ℕ) (v : Bool) → at < first + size → v ≡ (rest % 2 == 1) → bits at ≡ v → (number_of bits first size == value) ≡ (number_of bits at (first + size - at) == rest) → (number_of bits first size == value) ≡ (number_of bits (at + 1) (first + size - (at + 1)) == rest / 2)
spells_on bits first size value at rest v l e f h =
    h ∙ ap (λ n. number_of bits at n == rest) (let n : first + size - at ≡ suc (first + size - (at + 1)) = omega arith in n)
    ∙ digit_agrees bits at (first + size - (at + 1)) rest (f ∙ e)

pub not_unequal : (x y : Bool) → not (beq x y) ≡ false → x ≡ y
not_unequal true true e = refl
not_unequal true false e = absurd (true≢false e)
not_unequal false true e = absurd (true≢false e)
not_unequal false false e = refl

pub read_value : (bits : List Written) (at : ℕ) (d : Written) → at < length bits → value_in bits at ≡ (get_or bits at d).value
read_value bits at d l = ap value_of (slice_get-get_or bits at d l)
