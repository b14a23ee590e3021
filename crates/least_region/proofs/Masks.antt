-- Numbers of subsets, from the test for a side.
use Rattle.std.proofs.Common.{◌≡◌, ℕ, zero, suc, Bool, true, false, ◌+◌, ◌*◌, ◌-◌, ◌^◌, ◌<◌, ◌≤◌, ◌&&◌, ◌||◌, inl, inr, ◌⊎◌, min, refl, sym, ◌∙◌, ap, subst, arith, if◌then◌else◌}
use Rattle.std.specs.Prelude.{bit_and, bit_or}
use Rattle.std.specs.Int.{bit_at}
use Rattle.std.specs.Int.Bits.{or_add_and}
use Rattle.std.proofs.Math.Nat.{pow-suc}
use Rattle.std.proofs.lemmas.Nat.Bits.{bit_at_and, bit_at_or, same_from_bits, bit_at-zero, bit_at_above, bit_at_cat_low, bit_at_cat_high, and_pow, bit_at-pow_other, bit_at-lt}
use Rattle.std.proofs.lemmas.Bool.{cases_lt}
use Rattle.least_region.specs.inside.Subset.{Parts}

-- the subset of the sides below k that pass the test
abbrev pub mask : ℕ → (ℕ → Bool) → ℕ
mask zero p = 0
mask (suc k) p = mask k p + (if p k then 2 ^ k else 0)

below_more : (m x : ℕ) (b : Bool) → m < x → m + (if b then x else 0) < x * 2
below_more m x true lt = omega arith
below_more m x false lt = omega arith

pub mask_below : (k : ℕ) (p : ℕ → Bool) → mask k p < 2 ^ k
mask_below zero p = omega arith
mask_below (suc k) p = rw (pow-suc 2 k) (below_more (mask k p) (2 ^ k) (p k) (mask_below k p))

one_if : Bool → ℕ
one_if b = if b then 1 else 0

bit_more_low : (m k i : ℕ) (b : Bool) → i < k → bit_at (m + (if b then 2 ^ k else 0)) i ≡ bit_at m i
bit_more_low m k i true lt = let e : m + 2 ^ k ≡ 1 * 2 ^ k + m = omega arith in rw e (bit_at_cat_low 1 k m i lt)
bit_more_low m k i false lt = rw (let e : m + 0 ≡ m = omega arith in e)

bit_more_top : (m k : ℕ) (b : Bool) → m < 2 ^ k → bit_at (m + (if b then 2 ^ k else 0)) k ≡ (if b then 1 else 0)
bit_more_top m k true lt =
    let e : m + 2 ^ k ≡ 1 * 2 ^ k + m = omega arith in
    let n : k - k ≡ 0 = omega arith in
    let h = bit_at_cat_high 1 k m k lt (omega arith) in
    let one : bit_at 1 0 ≡ 1 = refl in
    rw e (h ∙ (rw n one))
bit_more_top m k false lt = let e : m + 0 ≡ m = omega arith in rw e (bit_at_above m k k lt (omega arith))

-- the bits of the subset
pub bit_mask : (k : ℕ) (p : ℕ → Bool) (i : ℕ) → i < k → bit_at (mask k p) i ≡ (if p i then 1 else 0)
bit_mask zero p i lt = absurd (omega arith)
bit_mask (suc k) p i lt =
    elim (cases_lt i k) [
      | inl low ↦ bit_more_low (mask k p) k i (p k) low ∙ bit_mask k p i low
      | inr top ↦
          let same : k ≡ i = omega arith in
          let P : ℕ → Type 0 = λ x. bit_at (mask k p + (if p k then 2 ^ k else 0)) x ≡ (if p x then 1 else 0) in
          subst P same (bit_more_top (mask k p) k (p k) (mask_below k p))
    ]

pub bit_mask_above : (k : ℕ) (p : ℕ → Bool) (i : ℕ) → k ≤ i → bit_at (mask k p) i ≡ 0
bit_mask_above k p i le = bit_at_above (mask k p) k i (mask_below k p) le

pub mask_same : (k : ℕ) (p q : ℕ → Bool) → ((i : ℕ) → i < k → p i ≡ q i) → mask k p ≡ mask k q
mask_same zero p q same = refl
mask_same (suc k) p q same =
    let e = mask_same k p q (λ i lt. same i (omega arith)) in
    let f = same k (omega arith) in
    let P : Bool → Type 0 = λ b. mask k p + (if p k then 2 ^ k else 0) ≡ mask k q + (if b then 2 ^ k else 0) in
    subst P f (ap (λ n. n + (if p k then 2 ^ k else 0)) e)

sum_split : (a b x : ℕ) (p q : Bool) → (p && q) ≡ false → a + (if p then x else 0) + (b + (if q then x else 0)) ≡ a + b + (if p || q then x else 0)
sum_split a b x true true e = absurd (let f : true ≡ false = e in cc)
sum_split a b x true false e = omega arith
sum_split a b x false true e = omega arith
sum_split a b x false false e = omega arith

mask_sum : (k : ℕ) (p q : ℕ → Bool) → ((i : ℕ) → i < k → (p i && q i) ≡ false) → mask k p + mask k q ≡ mask k (λ i. p i || q i)
mask_sum zero p q apart = refl
mask_sum (suc k) p q apart =
    let e = mask_sum k p q (λ i lt. apart i (omega arith)) in
    sum_split (mask k p) (mask k q) (2 ^ k) (p k) (q k) (apart k (omega arith)) ∙ ap (λ n. n + (if p k || q k then 2 ^ k else 0)) e

min_apart : (p q : Bool) → (p && q) ≡ false → min (if p then 1 else 0) (if q then 1 else 0) ≡ 0
min_apart true true e = absurd (let f : true ≡ false = e in cc)
min_apart true false e = refl
min_apart false true e = refl
min_apart false false e = refl

mask_apart : (k : ℕ) (p q : ℕ → Bool) → ((i : ℕ) → i < k → (p i && q i) ≡ false) → bit_and (mask k p) (mask k q) ≡ 0
mask_apart k p q apart =
    same_from_bits (bit_and (mask k p) (mask k q)) 0 (λ i.
    let z : bit_at 0 i ≡ 0 = bit_at-zero i in
    let m : bit_at (bit_and (mask k p) (mask k q)) i ≡ min (bit_at (mask k p) i) (bit_at (mask k q) i) = bit_at_and (mask k p) (mask k q) i in
    elim (cases_lt i k) [
      | inl low ↦
          let bp = bit_mask k p i low in
          let bq = bit_mask k q i low in
          m ∙ (rw (bp, bq) (min_apart (p i) (q i) (apart i low))) ∙ sym z
      | inr top ↦
          let bp : bit_at (mask k p) i ≡ 0 = bit_mask_above k p i top in
          let bq : bit_at (mask k q) i ≡ 0 = bit_mask_above k q i top in
          m ∙ (rw (bp, bq) refl) ∙ sym z
    ])

-- two tests that no side passes both
pub mask_parts : (k : ℕ) (p q r : ℕ → Bool) → ((i : ℕ) → i < k → (p i && q i) ≡ false) → ((i : ℕ) → i < k → r i ≡ (p i || q i)) → Parts (mask k p) (mask k q) (mask k r)
mask_parts k p q r apart is = (mask_sum k p q apart ∙ sym (mask_same k r (λ i. p i || q i) is), mask_apart k p q apart)

-- one more side
pub mask_one_more : (k : ℕ) (p : ℕ → Bool) → Parts (mask k p) (2 ^ k) (mask k p + 2 ^ k)
mask_one_more k p = (refl, let e = bit_mask_above k p k (omega arith) in and_pow (mask k p) k ∙ (rw e (omega arith)))

-- all sides
pub mask_all : (k : ℕ) → mask k (λ i. true) + 1 ≡ 2 ^ k
mask_all zero = refl
mask_all (suc k) = let e = mask_all k in rw (pow-suc 2 k) (omega arith)

-- a side of the union is one of a part
pub part_has : (a b m i : ℕ) → Parts a b m → bit_at m i ≡ 1 → (bit_at a i ≡ 1) ⊎ (bit_at b i ≡ 1)
part_has a b m i (sum, apart) has =
    let o : bit_or a b ≡ m = let w = or_add_and a b in omega (arith, w) in
    let P : ℕ → Type 0 = λ x. bit_at x i ≡ 1 in
    let h : bit_at (bit_or a b) i ≡ 1 = subst P (sym o) has in
    let mx = bit_at_or a b i in
    let la = bit_at-lt a i in
    let lb = bit_at-lt b i in
    elim (cases_lt (bit_at a i) 1) [
      | inl low ↦ inr (omega (arith, mx, h))
      | inr high ↦ inl (omega arith)
    ]

pub power_has : (k i : ℕ) → bit_at (2 ^ k) i ≡ 1 → i ≡ k
power_has k i has =
    elim (cases_lt i k) [
      | inl low ↦ absurd (let e = bit_at-pow_other k i (λ s. omega arith) in omega arith)
      | inr ge ↦ elim (cases_lt k i) [
        | inl high ↦ absurd (let e = bit_at-pow_other k i (λ s. omega arith) in omega arith)
        | inr le ↦ omega arith
      ]
    ]

pub none_has : (i : ℕ) → bit_at 0 i ≡ 1 → ⊥
none_has i has = let e = bit_at-zero i in omega arith

-- every side is in the whole
pub all_has : (k m i : ℕ) → m + 1 ≡ 2 ^ k → i < k → bit_at m i ≡ 1
all_has k m i e lt =
    let f : mask k (λ j. true) ≡ m = let w = mask_all k in omega arith in
    let P : ℕ → Type 0 = λ x. bit_at x i ≡ 1 in
    subst P f (bit_mask k (λ j. true) i lt)

pub twice : (n : ℕ) → 2 ^ suc n ≡ 2 ^ n + 2 ^ n
twice n = let e = pow-suc 2 n in omega arith
