-- Lists of truth values in words.
use Rattle.std.proofs.Common.{◌≡◌, ◌≢◌, ℕ, zero, suc, ◌+◌, ◌-◌, ◌*◌, ◌/◌, ◌%◌, ◌^◌, ◌==◌, ◌<◌, ◌≤◌, min, Bool, true, false, inl, inr, List, ◌∷◌, length, get_or, set, replicate, refl, ap, ap₂, subst, nat_lt, sym, ◌∙◌, arith, ext_get_or, zero-add, get_or-set_same, get_or-set_other, eqb-true, eq-eqb, ne_eqb}
use Rattle.std.proofs.lemmas.List.{length-set, get_or_default}
use Rattle.std.proofs.lemmas.Bool.{ltb-true, ltb-false, true≢false}
use Rattle.std.proofs.lemmas.Bool.{cases_Bool, eqb-false}
use Rattle.std.proofs.lemmas.Nat.{and_le_l}
use Rattle.std.specs.Int.{bit_at, bit_not, trailing_zeros}
use Rattle.std.specs.Int.RustNames.{bit_or, bit_xor}
use lib.Bits.{bit_and}
use mir.Syntax.{w64}
use Rattle.std.proofs.lemmas.Nat.Bits.{bit_at-zero, bit_at-lt, bit_at_and, bit_at_xor, bit_at_not, bit_at-trailing_zeros, bit_at_set_same, bit_at_set_other, shr_and_one}
use Rattle.std.proofs.lemmas.Bool.Decides.{nat_tests}
use Rattle.pauli_product.specs.Corrections.{xor}
use Rattle.commute_order.specs.inside.Words.{bit_in_words, bits_from, IsOpen}

pub length_bits : (words : List ℕ) (i n : ℕ) → length (bits_from words i n) ≡ n
length_bits words i zero = refl
length_bits words i (suc n) = ap suc (length_bits words (suc i) n)

pub bit_get : (words : List ℕ) (i n k : ℕ) (d : Bool) → k < n → get_or (bits_from words i n) k d ≡ bit_in_words words (i + k)
bit_get words i zero k d h = absurd (omega arith)
bit_get words i (suc n) zero d h = ap (bit_in_words words) (omega arith)
bit_get words i (suc n) (suc k) d h = let e : suc i + k ≡ i + suc k = omega arith in bit_get words (suc i) n k d (omega arith) ∙ ap (bit_in_words words) e

-- ---- no bit is set
zero_word : (m k : ℕ) → let none : ℕ = 0 in get_or (replicate m none) k none ≡ none
zero_word zero k = refl
zero_word (suc m) zero = refl
zero_word (suc m) (suc k) = zero_word m k

zero_bit : (m i : ℕ) → bit_in_words (replicate m 0) i ≡ false
zero_bit m i = rw zero_word (rw bit_at-zero refl)

pub bits_zero : (m i n : ℕ) → bits_from (replicate m 0) i n ≡ replicate n false
bits_zero m i zero = refl
bits_zero m i (suc n) = ap₂ ◌∷◌ (zero_bit m i) (bits_zero m (suc i) n)

-- ---- one bit is set
abbrev with_bit : List ℕ → ℕ → List ℕ
with_bit words i = set words (i / 64) (bit_or (get_or words (i / 64) 0) (1 * 2 ^ (i % 64) % 2 ^ 64))

same_bit : (words : List ℕ) (i : ℕ) → i / 64 < length words → bit_in_words (with_bit words i) i ≡ true
same_bit words i h =
    ap (λ w. bit_at w (i % 64) == 1) (get_or-set_same words (i / 64) (bit_or (get_or words (i / 64) 0) (1 * 2 ^ (i % 64) % 2 ^ 64)) 0 h)
    ∙ ap (λ b. b == 1) (bit_at_set_same w64 (get_or words (i / 64) 0) (i % 64) (omega arith))

other_bit : (words : List ℕ) (i k : ℕ) → i / 64 < length words → k ≢ i → bit_in_words (with_bit words i) k ≡ bit_in_words words k
other_bit words i k h ne =
    let v = bit_or (get_or words (i / 64) 0) (1 * 2 ^ (i % 64) % 2 ^ 64) in
    elim (cases_Bool (k / 64 == i / 64)) [
      | inl same ↦
          let word : k / 64 ≡ i / 64 = eqb-true _ _ same in
          let apart : k % 64 ≢ i % 64 = λ e. ne (omega arith) in
          ap (λ q. bit_at (get_or (set words (i / 64) v) q 0) (k % 64) == 1) word
          ∙ ap (λ w. bit_at w (k % 64) == 1) (get_or-set_same words (i / 64) v 0 h)
          ∙ ap (λ b. b == 1) (bit_at_set_other w64 (get_or words (i / 64) 0) (i % 64) (omega arith) (k % 64) apart)
          ∙ ap (λ q. bit_at (get_or words q 0) (k % 64) == 1) (sym word)
      | inr other ↦
          let word : k / 64 ≢ i / 64 = eqb-false _ _ other in
          ap (λ w. bit_at w (k % 64) == 1) (get_or-set_other words (i / 64) (k / 64) v 0 word)
    ]

pub bits_set : (words : List ℕ) (n i : ℕ) → i < n → n ≤ 64 * length words → bits_from (with_bit words i) 0 n ≡ set (bits_from words 0 n) i true
bits_set words n i h room =
    ext_get_or false (bits_from (with_bit words i) 0 n) (set (bits_from words 0 n) i true)
    (length_bits (with_bit words i) 0 n ∙ sym (length-set (bits_from words 0 n) i true ∙ length_bits words 0 n))
    each
  where
    inside : i < length (bits_from words 0 n)
    inside = omega (arith, length_bits words 0 n)

    each : (k : ℕ) → k < length (bits_from (with_bit words i) 0 n) → get_or (bits_from (with_bit words i) 0 n) k false ≡ get_or (set (bits_from words 0 n) i true) k false
    each k l =
        let within : k < n = omega (arith, length_bits (with_bit words i) 0 n) in
        elim (cases_Bool (k == i)) [
          | inl same ↦
              let e : k ≡ i = eqb-true _ _ same in
              ap (λ q. get_or (bits_from (with_bit words i) 0 n) q false) e
              ∙ bit_get (with_bit words i) 0 n i false h
              ∙ ap (bit_in_words (with_bit words i)) (zero-add i)
              ∙ same_bit words i (omega arith)
              ∙ sym (get_or-set_same (bits_from words 0 n) i true false inside)
              ∙ ap (λ q. get_or (set (bits_from words 0 n) i true) q false) (sym e)
          | inr other ↦
              let ne : k ≢ i = eqb-false _ _ other in
              bit_get (with_bit words i) 0 n k false within
              ∙ ap (bit_in_words (with_bit words i)) (zero-add k)
              ∙ other_bit words i k (omega arith) ne
              ∙ ap (bit_in_words words) (sym (zero-add k))
              ∙ sym (bit_get words 0 n k false within)
              ∙ sym (get_or-set_other (bits_from words 0 n) i k true false ne)
        ]

-- ---- the first bit that is set here and not there
-- bit number j of the words
pub record BitOpen (here there : List ℕ) (j : ℕ) : Type 0 where
  pub set : bit_in_words here j ≡ true
  pub undone : bit_in_words there j ≡ false

-- what is set in the list isn't open
pub set_closed : (here there : List ℕ) (n : ℕ) (done : List Bool) → bits_from there 0 n ≡ done → (j : ℕ) → j < n → get_or done j false ≡ true → BitOpen here there j → ⊥
set_closed here there n done e j within set o =
    let is : bit_in_words there j ≡ true = ap (bit_in_words there) (sym (zero-add j)) ∙ sym (bit_get there 0 n j false within) ∙ ap (λ (bs : List Bool). get_or bs j false) e ∙ set in
    true≢false (sym is ∙ o.undone)

-- a bit of x and not y
both : (x y i : ℕ) → y < 2 ^ 64 → i < 64 → bit_at (bit_and x (bit_not w64 y)) i ≡ min (bit_at x i) (1 - bit_at y i)
both x y i h k = bit_at_and x (bit_not w64 y) i ∙ ap (min (bit_at x i)) (bit_at_not w64 y i h k)

open_one : (here there : List ℕ) (k j : ℕ) → get_or there k 0 < 2 ^ 64 → j / 64 ≡ k → BitOpen here there j → bit_at (bit_and (get_or here k 0) (bit_not w64 (get_or there k 0))) (j % 64) ≡ 1
open_one here there k j h e o =
    let set : bit_at (get_or here k 0) (j % 64) ≡ 1 = ap (λ q. bit_at (get_or here q 0) (j % 64)) (sym e) ∙ eqb-true _ _ o.set in
    let clear : bit_at (get_or there (j / 64) 0) (j % 64) ≢ 1 = eqb-false _ _ o.undone in
    let same = ap (λ q. bit_at (get_or there q 0) (j % 64)) e in
    omega (arith, both (get_or here k 0) (get_or there k 0) (j % 64) h (omega arith), bit_at-lt (get_or there k 0) (j % 64))

-- no bit of the word is open
pub word_closed : (here there : List ℕ) (k : ℕ) → get_or there k 0 < 2 ^ 64 → bit_and (get_or here k 0) (bit_not w64 (get_or there k 0)) ≡ 0 → (j : ℕ) → j / 64 ≡ k → BitOpen here there j → ⊥
word_closed here there k h z j e o =
    let one = open_one here there k j h e o in
    let none = ap (λ w. bit_at w (j % 64)) z ∙ bit_at-zero (j % 64) in
    absurd (omega arith)

-- the least open bit of the word
pub record LeastIn (here there : List ℕ) (k t : ℕ) : Type 0 where
  pub small : t < 64
  pub stands : BitOpen here there (64 * k + t)
  pub least : (j : ℕ) → 64 * k ≤ j → j < 64 * k + t → BitOpen here there j → ⊥

pub word_open : (here there : List ℕ) (k : ℕ) → get_or here k 0 < 2 ^ 64 → get_or there k 0 < 2 ^ 64 → bit_and (get_or here k 0) (bit_not w64 (get_or there k 0)) ≢ 0
    → LeastIn here there k (trailing_zeros w64 (bit_and (get_or here k 0) (bit_not w64 (get_or there k 0))))
word_open here there k f h nz =
    let m = bit_and (get_or here k 0) (bit_not w64 (get_or there k 0)) in
    let t = trailing_zeros w64 m in
    let place = bit_at-trailing_zeros w64 m (omega arith) (let small = and_le_l (get_or here k 0) (bit_not w64 (get_or there k 0)) in omega arith) in
    let small : t < 64 = place.0 in
    let word : (64 * k + t) / 64 ≡ k = omega arith in
    let bit : (64 * k + t) % 64 ≡ t = omega arith in
    let parts = both (get_or here k 0) (get_or there k 0) t h small in
    let set : bit_at (get_or here k 0) t ≡ 1 = omega (arith, place.1, bit_at-lt (get_or here k 0) t) in
    let clear : bit_at (get_or there k 0) t ≢ 1 = omega (arith, place.1, bit_at-lt (get_or here k 0) t) in
    record {
      small = small;
      stands = record {
        set = (λ i. bit_at (get_or here (word i) 0) (bit i) == 1) ∙ eq-eqb _ _ set;
        undone = (λ i. bit_at (get_or there (word i) 0) (bit i) == 1) ∙ ne_eqb _ _ clear;
      };
      least = λ j a b o.
          let at : j / 64 ≡ k = omega arith in
          let one = open_one here there k j h at o in
          let none = place.2 (j % 64) (omega arith) in
          absurd (omega arith);
    }

-- one bit, as the code reads it
pub bit_read : (words : List ℕ) (i : ℕ) → (bit_and (get_or words (i / 64) 0 / 2 ^ (i % 64)) 1 == 1) ≡ bit_in_words words i
bit_read words i = ap (λ b. b == 1) (shr_and_one (get_or words (i / 64) 0) (i % 64))

-- what an index reads
pub read_at : (words : List ℕ) (k x : ℕ) → k < length words → x ≡ get_or words k x → x ≡ get_or words k 0
read_at words k x h e = e ∙ get_or_default words k x 0 h

-- ---- words and lists
module _ (here there : List ℕ) (m n : ℕ) (row done : List Bool) (e : bits_from here 0 m ≡ row) (f : bits_from there 0 n ≡ done) (below : ℕ) (a : below ≤ m) (b : below ≤ n) where
  bit_open : (j : ℕ) → j < below → IsOpen row done j → BitOpen here there j
  bit_open j h o = record {
    set = ap (bit_in_words here) (sym (zero-add j)) ∙ sym (bit_get here 0 m j false (omega arith)) ∙ ap (λ (bs : List Bool). get_or bs j false) e ∙ o.set;
    undone = ap (bit_in_words there) (sym (zero-add j)) ∙ sym (bit_get there 0 n j false (omega arith)) ∙ ap (λ (bs : List Bool). get_or bs j false) f ∙ o.undone;
  }

  is_open : (j : ℕ) → j < below → BitOpen here there j → IsOpen row done j
  is_open j h o = record {
    set = ap (λ (bs : List Bool). get_or bs j false) (sym e) ∙ bit_get here 0 m j false (omega arith) ∙ ap (bit_in_words here) (zero-add j) ∙ o.set;
    undone = ap (λ (bs : List Bool). get_or bs j false) (sym f) ∙ bit_get there 0 n j false (omega arith) ∙ ap (bit_in_words there) (zero-add j) ∙ o.undone;
  }

  -- all words were closed
  pub none_left : (k : ℕ) → below ≤ 64 * k → ((j : ℕ) → j < 64 * k → BitOpen here there j → ⊥) → (j : ℕ) → j < below → IsOpen row done j → ⊥
  none_left k h closed j l o = closed j (omega arith) (bit_open j l o)

  -- the word at k is the first that isn't closed
  module _ (k x y t : ℕ) (xs : x ≡ get_or here k 0) (ys : y ≡ get_or there k 0) (fx : x < 2 ^ 64) (fy : y < 2 ^ 64) (nz : bit_and x (bit_not w64 y) ≢ 0) (place : t ≡ trailing_zeros w64 (bit_and x (bit_not w64 y))) (closed : (j : ℕ) → j < 64 * k → BitOpen here there j → ⊥) where
    least : LeastIn here there k t
    least =
        let word : bit_and x (bit_not w64 y) ≡ bit_and (get_or here k 0) (bit_not w64 (get_or there k 0)) = λ i. bit_and (xs i) (bit_not w64 (ys i)) in
        let at : t ≡ trailing_zeros w64 (bit_and (get_or here k 0) (bit_not w64 (get_or there k 0))) = place ∙ ap (trailing_zeros w64) word in
        subst (LeastIn here there k) (sym at) (word_open here there k (omega arith) (omega arith) (λ z. nz (word ∙ z)))

    before : (j : ℕ) → j < 64 * k + t → BitOpen here there j → ⊥
    before j l o = elim (cases_Bool (nat_lt j (64 * k))) [
      | inl low ↦ closed j (ltb-true _ _ low) o
      | inr high ↦ least.least j (ltb-false _ _ high) l o
    ]

    pub found : 64 * k + t < below → (64 * k + t < below) × IsOpen row done (64 * k + t) × ((j : ℕ) → j < 64 * k + t → IsOpen row done j → ⊥)
    found l = (l, is_open (64 * k + t) l least.stands, λ j h o. before j h (bit_open j (omega arith) o))

    pub past : below ≤ 64 * k + t → (j : ℕ) → j < below → IsOpen row done j → ⊥
    past l j h o = before j (omega arith) (bit_open j h o)

-- ---- words that were flipped
one_flip : (a b : ℕ) → a < 2 → b < 2 → ((a + b) % 2 == 1) ≡ xor (a == 1) (b == 1)
one_flip a b h k = grind (arith, nat_tests)

flipped_bit : (x y i : ℕ) → (bit_at (bit_xor x y) i == 1) ≡ xor (bit_at x i == 1) (bit_at y i == 1)
flipped_bit x y i = ap (λ b. b == 1) (bit_at_xor x y i) ∙ one_flip (bit_at x i) (bit_at y i) (bit_at-lt x i) (bit_at-lt y i)

pub bits_flipped : (words other new : List ℕ) (n m j : ℕ) → j < n → j < m → ((k : ℕ) → k < length words → get_or new k 0 ≡ bit_xor (get_or words k 0) (get_or other k 0)) → n ≤ 64 * length words
    → get_or (bits_from new 0 n) j false ≡ xor (get_or (bits_from words 0 n) j false) (get_or (bits_from other 0 m) j false)
bits_flipped words other new n m j h k flip room =
    let word = flip (j / 64) (omega arith) in
    bit_get new 0 n j false h
    ∙ ap (bit_in_words new) (zero-add j)
    ∙ ap (λ w. bit_at w (j % 64) == 1) word
    ∙ flipped_bit (get_or words (j / 64) 0) (get_or other (j / 64) 0) (j % 64)
    ∙ (λ i. xor (bit_in_words words (sym (zero-add j) i)) (bit_in_words other (sym (zero-add j) i)))
    ∙ (λ i. xor (sym (bit_get words 0 n j false h) i) (sym (bit_get other 0 m j false k) i))
