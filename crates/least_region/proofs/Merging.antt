-- What the loops over unions keep.
use Rattle.std.proofs.Common.{◌≡◌, ℕ, ◌+◌, ◌<◌, ◌≤◌, inl, inr, length, slice_get, slice_set, get_or, Some, List, sym, subst, arith}
use Rattle.std.specs.Prelude.{bit_and}
use Rattle.std.proofs.lemmas.Bool.{cases_lt}
use Rattle.std.proofs.lemmas.Option.{slice_get_within, slice_get-get_or}
use Rattle.patch_layout.proofs.Places.{get_set_cases, get_set_here, same_entry}
use Rattle.least_region.specs.inside.Table.{AtMost}
use Rattle.least_region.specs.inside.Growth.{Under, Merged, MergedTo}
use Rattle.least_region.proofs.Lowering.{under_self, under_on, under_set}

pub merged_start : (one other : List ℕ) (limit : ℕ) (row : List ℕ) → Merged one other limit row row 0
merged_start one other limit row =
    record {
      under = under_self row;
      some = λ h. h;
      least = λ c k lt. absurd (omega arith);
      made = λ c v is few. inl is;
    }

-- at a cell that the union leaves as it was
pub merged_kept : (one other : List ℕ) (limit : ℕ) (old row : List ℕ) (n x y v size : ℕ) → Merged one other limit old row n → slice_get one n ≡ Some x → slice_get other n ≡ Some y → slice_get row n ≡ Some v
    → ((k : ℕ) → x + y ≡ k + 1 → k ≤ limit → size ≤ k) → v ≤ size → Merged one other limit old row (n + 1)
merged_kept one other limit old row n x y v size m ex ey ev low le =
    record {
      under = m.under;
      some = m.some;
      least = λ c k lt (x', y', ex', ey', sum) few. elim (cases_lt c n) [
        | inl lt' ↦ m.least c k lt' (x', y', ex', ey', sum) few
        | inr ge ↦
            let same : c ≡ n = omega arith in
            let P : ℕ → Type 0 = λ z. slice_get one z ≡ Some x' in
            let Q : ℕ → Type 0 = λ z. slice_get other z ≡ Some y' in
            let fx : x' ≡ x = same_entry one n x' x (subst P same ex') ex in
            let fy : y' ≡ y = same_entry other n y' y (subst Q same ey') ey in
            let w = low k (omega arith) few in
            let R : ℕ → Type 0 = λ z. AtMost row z k in
            subst R (sym same) (v, ev, omega arith)
      ];
      made = m.made;
    }

-- at a cell whose size is lowered
pub merged_set : (one other : List ℕ) (limit : ℕ) (old row : List ℕ) (n x y v size : ℕ) → Merged one other limit old row n → slice_get one n ≡ Some x → slice_get other n ≡ Some y → slice_get row n ≡ Some v
    → ((k : ℕ) → x + y ≡ k + 1 → k ≤ limit → size ≤ k) → (size ≤ limit → (x + y ≡ size + 1) × (x ≤ limit)) → 0 < size → size < v → Merged one other limit old (slice_set row n size) (n + 1)
merged_set one other limit old row n x y v size m ex ey ev low made some lt =
    let row' : List ℕ = slice_set row n size in
    let under' : Under row row' = under_set row n size v ev (omega arith) in
    record {
      under = under_on old row row' m.under under';
      some = λ h c w is. elim (get_set_cases row n size c w is) [
        | inl before ↦ m.some h c w before
        | inr new ↦ let e = new.1 in omega arith
      ];
      least = λ c k below (x', y', ex', ey', sum) few. elim (cases_lt c n) [
        | inl lt' ↦ under' c k (m.least c k lt' (x', y', ex', ey', sum) few)
        | inr ge ↦
            let same : c ≡ n = omega arith in
            let P : ℕ → Type 0 = λ z. slice_get one z ≡ Some x' in
            let Q : ℕ → Type 0 = λ z. slice_get other z ≡ Some y' in
            let fx : x' ≡ x = same_entry one n x' x (subst P same ex') ex in
            let fy : y' ≡ y = same_entry other n y' y (subst Q same ey') ey in
            let w = low k (omega arith) few in
            let R : ℕ → Type 0 = λ z. AtMost row' z k in
            subst R (sym same) (size, get_set_here row n size (slice_get_within row n v ev), w)
      ];
      made = λ c w is few. elim (get_set_cases row n size c w is) [
        | inl before ↦ m.made c w before few
        | inr new ↦
            let e = new.1 in
            let (sum, x-few) = made (omega arith) in
            let P : ℕ → Type 0 = λ z. slice_get one z ≡ Some x in
            let Q : ℕ → Type 0 = λ z. slice_get other z ≡ Some y in
            inr (x, y, subst P (sym new.0) ex, subst Q (sym new.0) ey, omega arith, x-few)
      ];
    }

pub merged_to_start : (rows : List (List ℕ)) (m limit : ℕ) (row : List ℕ) → MergedTo rows m limit row row 1
merged_to_start rows m limit row =
    record {
      under = under_self row;
      some = λ h. h;
      least = λ a b c x y k lt le parts some. absurd (omega arith);
      made = λ c v is few. inl is;
    }

-- where the number is none of a lesser part
pub merged_to_kept : (rows : List (List ℕ)) (m limit : ℕ) (old row : List ℕ) (n b : ℕ) → MergedTo rows m limit old row n → n + b ≡ m → ((n ≤ b) × (bit_and n b ≡ 0) → ⊥) → MergedTo rows m limit old row (n + 1)
merged_to_kept rows m limit old row n b t sum none =
    record {
      under = t.under;
      some = t.some;
      least = λ a b' c x y k lt le parts some ex ey total few. elim (cases_lt a n) [
        | inl lt' ↦ t.least a b' c x y k lt' le parts some ex ey total few
        | inr ge ↦
            let same : a ≡ n = omega arith in
            let other : b' ≡ b = omega (arith, parts.0) in
            let P : ℕ → Type 0 = λ z. bit_and z b' ≡ 0 in
            let Q : ℕ → Type 0 = λ z. bit_and n z ≡ 0 in
            absurd (none (omega arith, subst Q other (subst P same parts.1)))
      ];
      made = t.made;
    }

pub merged_to_more : (rows : List (List ℕ)) (m limit : ℕ) (old row after one other : List ℕ) (n b : ℕ) → MergedTo rows m limit old row n → n + b ≡ m → 0 < n → n ≤ b → bit_and n b ≡ 0
    → slice_get rows n ≡ Some one → slice_get rows b ≡ Some other → length one ≤ length row → Merged one other limit row after (length row) → MergedTo rows m limit old after (n + 1)
merged_to_more rows m limit old row after one other n b t sum some le apart is-one is-other size u =
    record {
      under = under_on old row after t.under u.under;
      some = λ h. u.some (t.some h);
      least = λ a b' c x y k lt le' parts some' (ra, ia, ea) (rb, ib, eb) total few. elim (cases_lt a n) [
        | inl lt' ↦ u.under c k (t.least a b' c x y k lt' le' parts some' (ra, ia, ea) (rb, ib, eb) total few)
        | inr ge ↦
            let same : a ≡ n = omega arith in
            let other-same : b' ≡ b = omega (arith, parts.0) in
            let P : ℕ → Type 0 = λ z. slice_get rows z ≡ Some ra in
            let Q : ℕ → Type 0 = λ z. slice_get rows z ≡ Some rb in
            let fa : ra ≡ one = same_entry rows n ra one (subst P same ia) is-one in
            let fb : rb ≡ other = same_entry rows b rb other (subst Q other-same ib) is-other in
            let R : List ℕ → Type 0 = λ z. slice_get z c ≡ Some x in
            let S : List ℕ → Type 0 = λ z. slice_get z c ≡ Some y in
            let ex : slice_get one c ≡ Some x = subst R fa ea in
            let low : c < length one = slice_get_within one c x ex in
            u.least c k (omega arith) (x, y, ex, subst S fb eb, total) few
      ];
      made = λ c v is few. elim (u.made c v is few) [
        | inl before ↦ t.made c v before few
        | inr (x, y, ex, ey, total, x-few) ↦ inr (n, b, x, y, (sum, apart), some, omega arith, (one, is-one, ex), (other, is-other, ey), total, x-few)
      ];
    }

-- a row that was read
pub row_at : (rows : List (List ℕ)) (m : ℕ) (row sizes : List ℕ) → m < length rows → row ≡ get_or rows m row → sizes ≡ row → slice_get rows m ≡ Some sizes
row_at rows m row sizes lt e f = let P : List ℕ → Type 0 = λ r. slice_get rows m ≡ Some r in subst P (sym f) (subst P (sym e) (slice_get-get_or rows m row lt))
