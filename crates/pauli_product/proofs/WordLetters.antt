-- The letters of two masks: at a qubit, after a change, and their products.
use Rattle.std.proofs.Common.{◌≡◌, ◌≢◌, ℕ, zero, suc, ◌+◌, ◌*◌, ◌/◌, ◌%◌, ◌^◌, ◌-◌, ◌==◌, ◌<◌, ◌≤◌, nat_lt, Bool, true, false, if◌then◌else◌, inl, inr, List, ◌∷◌, length, get_or, set, replicate, slice_get, Some, refl, ap, ap₂, subst, sym, ◌∙◌, arith, eqb-true, ext_get_or, get_or-set_same, get_or-set_other, length-set, pow-suc, shr-shr}
use Rattle.std.proofs.lemmas.Bool.{cases_Bool, eqb-false, ltb-true, ltb-false}
use Rattle.std.proofs.lemmas.Option.{slice_get-get_or}
use Rattle.std.proofs.lemmas.Nat.Bits.{bit_at-zero, bit_at-lt, bit_at_lowest, bit_at-suc, bit_at_or, bit_at_above}
use Rattle.std.specs.Int.{bit_at}
use lib.Bits.{bit_and, bit_or, bit_xor, and_le_l, and_lt, and_shr, and_mod, xor_lt, xor_shr, xor_mod}
use lib.Count.{ones, ones_step, ones-le}
use Rattle.pauli_product.specs.declared.Letter.{Letter}
use Rattle.pauli_product.specs.declared.Letter.TheVariants.{I}
use Rattle.pauli_product.specs.declared.word.Word.{Word}
use Rattle.pauli_product.specs.Letters.{letter_product, letter_phase, letters_clash}
use Rattle.pauli_product.specs.Signed.{letters_product, letters_phase, clashes}
use Rattle.pauli_product.specs.inside.Words.{letter_of, mask_letters, word_letters}

pub length-mask_letters : (n x z : ℕ) → length (mask_letters n x z) ≡ n
unfolding mask_letters
length-mask_letters zero x z = refl
length-mask_letters (suc n) x z = ap suc (length-mask_letters n (x / 2) (z / 2))

pub length-word_letters : (w : Word) → length (word_letters w) ≡ 64
unfolding word_letters
length-word_letters w = length-mask_letters 64 w.x w.z

pub no_letters : (n : ℕ) → mask_letters n 0 0 ≡ replicate n I
unfolding mask_letters
no_letters zero = refl
no_letters (suc n) = ap (λ (ls : List Letter). I ∷ ls) (no_letters n)

-- ---- one letter
-- the letter that bit i of each mask makes
abbrev pub letter_at_bit : ℕ → ℕ → ℕ → Letter
letter_at_bit x z i = letter_of (bit_at x i == 1) (bit_at z i == 1)

pub letter_get : (n x z i : ℕ) (d : Letter) → i < n → get_or (mask_letters n x z) i d ≡ letter_at_bit x z i
unfolding mask_letters
letter_get zero x z i d h = absurd (omega arith)
letter_get (suc n) x z zero d h = λ j. letter_of (sym (bit_at_lowest x) j == 1) (sym (bit_at_lowest z) j == 1)
letter_get (suc n) x z (suc i) d h = letter_get n (x / 2) (z / 2) i d (omega arith) ∙ (λ j. letter_of (sym (bit_at-suc x i) j == 1) (sym (bit_at-suc z i) j == 1))

pub letter_read : (n x z i : ℕ) (a b : Bool) → i < n → a ≡ (bit_at x i == 1) → b ≡ (bit_at z i == 1) → slice_get (mask_letters n x z) i ≡ Some (letter_of a b)
letter_read n x z i a b h e f =
    slice_get-get_or (mask_letters n x z) i I (omega (arith, length-mask_letters n x z))
    ∙ ap Some (letter_get n x z i I h ∙ ap₂ letter_of (sym e) (sym f))

-- two masks in which bit i was changed
pub letter_put : (n x z x' z' i : ℕ) (a b : Bool) → i < n → (bit_at x' i == 1) ≡ a → ((k : ℕ) → k < n → k ≢ i → bit_at x' k ≡ bit_at x k) → (bit_at z' i == 1) ≡ b → ((k : ℕ) → k < n → k ≢ i → bit_at z' k ≡ bit_at z k)
    → mask_letters n x' z' ≡ set (mask_letters n x z) i (letter_of a b)
letter_put n x z x' z' i a b h e others f others' =
    ext_get_or I (mask_letters n x' z') (set (mask_letters n x z) i (letter_of a b)) (omega (arith, length-mask_letters n x z, length-mask_letters n x' z', length-set (mask_letters n x z) i (letter_of a b))) each
  where
    inside : i < length (mask_letters n x z)
    inside = omega (arith, length-mask_letters n x z)

    each : (k : ℕ) → k < length (mask_letters n x' z') → get_or (mask_letters n x' z') k I ≡ get_or (set (mask_letters n x z) i (letter_of a b)) k I
    each k l =
        let within : k < n = omega (arith, length-mask_letters n x' z') in
        elim (cases_Bool (k == i)) [
          | inl same ↦
              let at : k ≡ i = eqb-true _ _ same in
              ap (λ q. get_or (mask_letters n x' z') q I) at
              ∙ letter_get n x' z' i I h
              ∙ ap₂ letter_of e f
              ∙ sym (get_or-set_same (mask_letters n x z) i (letter_of a b) I inside)
              ∙ ap (λ q. get_or (set (mask_letters n x z) i (letter_of a b)) q I) (sym at)
          | inr other ↦
              let ne : k ≢ i = eqb-false _ _ other in
              letter_get n x' z' k I within
              ∙ (λ j. letter_of (others k within ne j == 1) (others' k within ne j == 1))
              ∙ sym (letter_get n x z k I within)
              ∙ sym (get_or-set_other (mask_letters n x z) i k (letter_of a b) I ne)
        ]

-- ---- products
-- the qubits on which the letters clash
abbrev pub clash_mask : (x z y w : ℕ) → ℕ
clash_mask x z y w = bit_xor (bit_and x w) (bit_and z y)

-- the clashes with the power 3
abbrev pub minus_mask : (x z y w : ℕ) → ℕ
minus_mask x z y w = bit_and (clash_mask x z y w) (bit_xor (bit_xor (bit_xor x y) (bit_xor z w)) (bit_and x w))

minus_is_clash : (x z y w : ℕ) → minus_mask x z y w ≤ clash_mask x z y w
minus_is_clash x z y w = and_le_l (clash_mask x z y w) (bit_xor (bit_xor (bit_xor x y) (bit_xor z w)) (bit_and x w))

-- masks of n qubits have at most n clashes
module _ (n x z y w : ℕ) (a : x < 2 ^ n) (b : z < 2 ^ n) (c : y < 2 ^ n) (d : w < 2 ^ n) where
  pub clash_fits : clash_mask x z y w < 2 ^ n
  clash_fits = xor_lt n (bit_and x w) (bit_and z y) (and_lt n x w a d) (and_lt n z y b c)

  pub few_clashes : ones (clash_mask x z y w) ≤ n
  few_clashes = ones-le n (clash_mask x z y w) clash_fits

  pub few_powers : ones (clash_mask x z y w) + 2 * ones (minus_mask x z y w) ≤ 3 * n
  few_powers =
      let fits = clash_fits in
      omega (arith, few_clashes, ones-le n (minus_mask x z y w) (omega (arith, minus_is_clash x z y w)))

-- a bit that is set or clear
bit : Bool → ℕ
bit b = if b then 1 else 0

below_two : (r : ℕ) → r < 2 → r ≡ bit (r == 1)
unfolding bit
below_two zero h = refl
below_two (suc zero) h = refl
below_two (suc (suc r)) h = absurd (omega arith)

low_bit : (n : ℕ) → n % 2 ≡ bit (n % 2 == 1)
low_bit n = below_two (n % 2) (omega arith)

half_lt : (m n : ℕ) → m < 2 ^ suc n → m / 2 < 2 ^ n
half_lt m n h = omega (arith, pow-suc 2 n)

-- what the masks say of one qubit
record OneQubit (a b c d : Bool) : Type 0 where
  product : letter_of (bit_xor (bit a) (bit c) == 1) (bit_xor (bit b) (bit d) == 1) ≡ letter_product (letter_of a b) (letter_of c d)
  clash : clash_mask (bit a) (bit b) (bit c) (bit d) ≡ (if letters_clash (letter_of a b) (letter_of c d) then 1 else 0)
  power : clash_mask (bit a) (bit b) (bit c) (bit d) + 2 * minus_mask (bit a) (bit b) (bit c) (bit d) ≡ letter_phase (letter_of a b) (letter_of c d)

one_qubit : (a b c d : Bool) → OneQubit a b c d
unfolding bit
one_qubit false false false false = record { product = refl; clash = refl; power = refl }
one_qubit false false false true = record { product = refl; clash = refl; power = refl }
one_qubit false false true false = record { product = refl; clash = refl; power = refl }
one_qubit false false true true = record { product = refl; clash = refl; power = refl }
one_qubit false true false false = record { product = refl; clash = refl; power = refl }
one_qubit false true false true = record { product = refl; clash = refl; power = refl }
one_qubit false true true false = record { product = refl; clash = refl; power = refl }
one_qubit false true true true = record { product = refl; clash = refl; power = refl }
one_qubit true false false false = record { product = refl; clash = refl; power = refl }
one_qubit true false false true = record { product = refl; clash = refl; power = refl }
one_qubit true false true false = record { product = refl; clash = refl; power = refl }
one_qubit true false true true = record { product = refl; clash = refl; power = refl }
one_qubit true true false false = record { product = refl; clash = refl; power = refl }
one_qubit true true false true = record { product = refl; clash = refl; power = refl }
one_qubit true true true false = record { product = refl; clash = refl; power = refl }
one_qubit true true true true = record { product = refl; clash = refl; power = refl }

-- the lowest bit of the masks, and the bits above it
low_xor : (x y : ℕ) → bit_xor x y % 2 ≡ bit_xor (bit (x % 2 == 1)) (bit (y % 2 == 1))
low_xor x y = xor_mod x y 1 ∙ ap₂ bit_xor (low_bit x) (low_bit y)

low_and : (x y : ℕ) → bit_and x y % 2 ≡ bit_and (bit (x % 2 == 1)) (bit (y % 2 == 1))
low_and x y = and_mod x y 1 ∙ ap₂ bit_and (low_bit x) (low_bit y)

module _ (x z y w : ℕ) where
  low_clash : clash_mask x z y w % 2 ≡ clash_mask (bit (x % 2 == 1)) (bit (z % 2 == 1)) (bit (y % 2 == 1)) (bit (w % 2 == 1))
  low_clash =
      xor_mod (bit_and x w) (bit_and z y) 1
      ∙ ap₂ bit_xor (low_and x w) (low_and z y)

  low_minus : minus_mask x z y w % 2 ≡ minus_mask (bit (x % 2 == 1)) (bit (z % 2 == 1)) (bit (y % 2 == 1)) (bit (w % 2 == 1))
  low_minus =
      and_mod (clash_mask x z y w) (bit_xor (bit_xor (bit_xor x y) (bit_xor z w)) (bit_and x w)) 1
      ∙ ap₂ bit_and low_clash
      (xor_mod (bit_xor (bit_xor x y) (bit_xor z w)) (bit_and x w) 1
      ∙ ap₂ bit_xor (xor_mod (bit_xor x y) (bit_xor z w) 1 ∙ ap₂ bit_xor (low_xor x y) (low_xor z w)) (low_and x w))

  half_clash : clash_mask x z y w / 2 ≡ clash_mask (x / 2) (z / 2) (y / 2) (w / 2)
  half_clash = xor_shr (bit_and x w) (bit_and z y) 1 ∙ ap₂ bit_xor (and_shr x w 1) (and_shr z y 1)

  half_minus : minus_mask x z y w / 2 ≡ minus_mask (x / 2) (z / 2) (y / 2) (w / 2)
  half_minus =
      and_shr (clash_mask x z y w) (bit_xor (bit_xor (bit_xor x y) (bit_xor z w)) (bit_and x w)) 1
      ∙ ap₂ bit_and half_clash
      (xor_shr (bit_xor (bit_xor x y) (bit_xor z w)) (bit_and x w) 1
      ∙ ap₂ bit_xor (xor_shr (bit_xor x y) (bit_xor z w) 1 ∙ ap₂ bit_xor (xor_shr x y 1) (xor_shr z w 1)) (and_shr x w 1))

  qubit : OneQubit (x % 2 == 1) (z % 2 == 1) (y % 2 == 1) (w % 2 == 1)
  qubit = one_qubit (x % 2 == 1) (z % 2 == 1) (y % 2 == 1) (w % 2 == 1)

pub product_letters : (n x z y w : ℕ) → mask_letters n (bit_xor x y) (bit_xor z w) ≡ letters_product (mask_letters n x z) (mask_letters n y w)
unfolding mask_letters
product_letters zero x z y w = refl
product_letters (suc n) x z y w =
    ap₂ (λ (l : Letter) (ls : List Letter). l ∷ ls)
    ((λ i. letter_of (low_xor x y i == 1) (low_xor z w i == 1)) ∙ (qubit x z y w).product)
    ((λ i. mask_letters n (xor_shr x y 1 i) (xor_shr z w 1 i)) ∙ product_letters n (x / 2) (z / 2) (y / 2) (w / 2))

pub ones_clash : (n x z y w : ℕ) → clash_mask x z y w < 2 ^ n → ones (clash_mask x z y w) ≡ clashes (mask_letters n x z) (mask_letters n y w)
unfolding mask_letters
ones_clash zero x z y w h = omega (arith, ones-le 0 (clash_mask x z y w) h)
ones_clash (suc n) x z y w h =
    ones_step (clash_mask x z y w)
    ∙ ap₂ ◌+◌
    (low_clash x z y w ∙ (qubit x z y w).clash)
    (ap ones (half_clash x z y w) ∙ ones_clash n (x / 2) (z / 2) (y / 2) (w / 2) (subst (λ c. c < 2 ^ n) (half_clash x z y w) (half_lt (clash_mask x z y w) n h)))

added : (a b p q a' b' u v : ℕ) → a ≡ p + a' → b ≡ q + b' → p + 2 * q ≡ u → a' + 2 * b' ≡ v → a + 2 * b ≡ u + v
added a b p q a' b' u v e f g h = omega arith

pub ones_power : (n x z y w : ℕ) → clash_mask x z y w < 2 ^ n → ones (clash_mask x z y w) + 2 * ones (minus_mask x z y w) ≡ letters_phase (mask_letters n x z) (mask_letters n y w)
unfolding mask_letters
ones_power zero x z y w h =
    let small : minus_mask x z y w < 2 ^ 0 = omega (arith, minus_is_clash x z y w) in
    omega (arith, ones-le 0 (clash_mask x z y w) h, ones-le 0 (minus_mask x z y w) small)
ones_power (suc n) x z y w h =
    added (ones (clash_mask x z y w)) (ones (minus_mask x z y w)) (clash_mask x z y w % 2) (minus_mask x z y w % 2) (ones (clash_mask x z y w / 2)) (ones (minus_mask x z y w / 2)) _ _
    (ones_step (clash_mask x z y w))
    (ones_step (minus_mask x z y w))
    ((λ i. low_clash x z y w i + 2 * low_minus x z y w i) ∙ (qubit x z y w).power)
    ((λ i. ones (half_clash x z y w i) + 2 * ones (half_minus x z y w i))
    ∙ ones_power n (x / 2) (z / 2) (y / 2) (w / 2) (subst (λ c. c < 2 ^ n) (half_clash x z y w) (half_lt (clash_mask x z y w) n h)))

-- ---- the support
-- the letters at which neither mask has a bit
clear_letter : (a b : Bool) → letter_of a b ≡ I → (a ≡ false) × (b ≡ false)
clear_letter false false e = (refl, refl)
clear_letter false true e = absurd cc
clear_letter true false e = absurd cc
clear_letter true true e = absurd cc

pub outside : (n x z k : ℕ) → k < n → bit_at (bit_or x z) k ≡ 0 → get_or (mask_letters n x z) k I ≡ I
outside n x z k h e =
    let left : bit_at x k ≡ 0 = omega (arith, bit_at_or x z k) in
    let right : bit_at z k ≡ 0 = omega (arith, bit_at_or x z k) in
    letter_get n x z k I h ∙ (λ i. letter_of (left i == 1) (right i == 1))

pub inside : (n x z k : ℕ) → k < n → bit_at (bit_or x z) k ≡ 1 → get_or (mask_letters n x z) k I ≢ I
inside n x z k h e none =
    let parts = clear_letter (bit_at x k == 1) (bit_at z k == 1) (sym (letter_get n x z k I h) ∙ none) in
    let left : bit_at x k ≢ 1 = eqb-false _ _ parts.0 in
    let right : bit_at z k ≢ 1 = eqb-false _ _ parts.1 in
    omega (arith, bit_at_or x z k, bit_at-lt x k, bit_at-lt z k)

-- the bits from number f on
pub bit_shifted : (m f k : ℕ) → bit_at (m / 2 ^ f) k ≡ bit_at m (f + k)
bit_shifted m f k = ap (λ q. q % 2) (shr-shr m f k)

-- from qubit f on: t is the first that has a bit in the masks from there on
module _ (n x z f t : ℕ) (a : bit_or x z < 2 ^ n) (one : bit_at (bit_or x z / 2 ^ f) t ≡ 1) (none : (i : ℕ) → i < t → bit_at (bit_or x z / 2 ^ f) i ≡ 0) where
  there : bit_at (bit_or x z) (f + t) ≡ 1
  there = sym (bit_shifted (bit_or x z) f t) ∙ one

  pub first_within : f + t < n
  first_within = elim (cases_Bool (nat_lt (f + t) n)) [
    | inl in' ↦ ltb-true _ _ in'
    | inr out ↦ let past = bit_at_above (bit_or x z) n (f + t) a (ltb-false _ _ out) in let set = there in absurd (omega arith)
  ]

  pub first_found : get_or (mask_letters n x z) (f + t) I ≢ I
  first_found = inside n x z (f + t) first_within there

  pub none_before : (k : ℕ) → f ≤ k → k < f + t → get_or (mask_letters n x z) k I ≡ I
  none_before k g h =
      let at : f + (k - f) ≡ k = omega arith in
      let within = first_within in
      outside n x z k (omega arith) (ap (bit_at (bit_or x z)) (sym at) ∙ sym (bit_shifted (bit_or x z) f (k - f)) ∙ none (k - f) (omega arith))

pub none_from : (n x z f : ℕ) → bit_or x z / 2 ^ f ≡ 0 → (k : ℕ) → f ≤ k → k < n → get_or (mask_letters n x z) k I ≡ I
none_from n x z f e k g h =
    let at : f + (k - f) ≡ k = omega arith in
    outside n x z k h (ap (bit_at (bit_or x z)) (sym at) ∙ sym (bit_shifted (bit_or x z) f (k - f)) ∙ ap (λ m. bit_at m (k - f)) e ∙ bit_at-zero (k - f))
