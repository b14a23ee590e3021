-- Sums over lists after one change, and how often a number stands in a list.
use Rattle.std.proofs.Common.{◌≡◌, ◌≢◌, ℕ, zero, suc, ◌+◌, ◌<◌, ◌≤◌, ◌⊎◌, Bool, true, false, eqb, ltb, List, [], ◌∷◌, ◌++◌, length, get_or, set, refl, sym, ap, subst, inl, inr, ⊎_elim, arith, sum_by, Contains, eq-eqb, ne_eqb, lt-ltb, le-ltb}
use Rattle.std.proofs.lemmas.List.Sums.{sum_by-cons, sum_by_push, sum_by-append}
use mathlib.Core.Option.{some, some-injective, some-ne-none}
use mathlib.Core.Logic.{dite}
use native.Mathlib.Decide.{dec_le, ℕ_discrete}
use lib.ListN.{get_elem?}
use Rattle.atomic_table.proofs.Lists.{at_set, set_here}
use Rattle.number_share.specs.Lists.{one_if, times}

module _ {A : Type 0} where
  pub at_end : (l : List A) (a b : A) (j : ℕ) → get_elem? (l ++ a ∷ []) j ≡ some b → (get_elem? l j ≡ some b) ⊎ ((j ≡ length l) × (a ≡ b))
  at_end [] a b zero e = inr (refl, some-injective a b e)
  at_end [] a b (suc j) e = absurd (some-ne-none b (sym e))
  at_end (x ∷ xs) a b zero e = inl e
  at_end (x ∷ xs) a b (suc j) e = ⊎_elim (λ t. inl t) (λ t. inr (ap suc t.0, t.1)) (at_end xs a b j e)

  pub at_inside : (l : List A) (i : ℕ) (a : A) → get_elem? l i ≡ some a → i < length l
  at_inside [] i a e = absurd (some-ne-none a (sym e))
  at_inside (x ∷ xs) zero a e = omega arith
  at_inside (x ∷ xs) (suc i) a e = let h = at_inside xs i a e in omega arith

  pub set_at : (l : List A) (i : ℕ) (a b : A) → get_elem? l i ≡ some a → get_elem? (set l i b) i ≡ some b
  set_at l i a b e = set_here l i b (at_inside l i a e)

  pub each_lone : (P : A → Type 0) (x : A) → P x → (j : ℕ) (u : A) → get_elem? (x ∷ []) j ≡ some u → P u
  each_lone P x here zero u e = subst P (some-injective x u e) here
  each_lone P x here (suc j) u e = absurd (some-ne-none u (sym e))

  -- what holds of each element, after one changed
  pub each_set : (P : A → Type 0) (vs : List A) (i : ℕ) (w : A) → P w → ((j : ℕ) (u : A) → get_elem? vs j ≡ some u → P u) → (j : ℕ) (u : A) → get_elem? (set vs i w) j ≡ some u → P u
  each_set P vs i w mine all j u e = ⊎_elim (λ (t : (j ≡ i) × (w ≡ u)). subst P t.1 mine) (λ (t : (j ≢ i) × (get_elem? vs j ≡ some u)). all j u t.1) (at_set vs i j w u e)

  pub each_push : (P : A → Type 0) (vs : List A) (w : A) → P w → ((j : ℕ) (u : A) → get_elem? vs j ≡ some u → P u) → (j : ℕ) (u : A) → get_elem? (vs ++ w ∷ []) j ≡ some u → P u
  each_push P vs w mine all j u e = ⊎_elim (λ (t : get_elem? vs j ≡ some u). all j u t) (λ (t : (j ≡ length vs) × (w ≡ u)). subst P t.1 mine) (at_end vs w u j e)

module _ {A : Type 0} (f : A → ℕ) where
  pub sum_set : (vs : List A) (i : ℕ) (v w : A) → get_elem? vs i ≡ some v → sum_by f (set vs i w) + f v ≡ sum_by f vs + f w
  sum_set [] i v w e = absurd (some-ne-none v (sym e))
  sum_set (x ∷ xs) zero v w e = let t : f x ≡ f v = ap f (some-injective x v e) in let a = sum_by-cons f x xs in let b = sum_by-cons f w xs in omega arith
  sum_set (x ∷ xs) (suc i) v w e = let t = sum_set xs i v w e in let a = sum_by-cons f x xs in let b = sum_by-cons f x (set xs i w) in omega arith

  pub sum_at : (vs : List A) (i : ℕ) (v : A) → get_elem? vs i ≡ some v → f v ≤ sum_by f vs
  sum_at [] i v e = absurd (some-ne-none v (sym e))
  sum_at (x ∷ xs) zero v e = let t : f x ≡ f v = ap f (some-injective x v e) in let a = sum_by-cons f x xs in omega arith
  sum_at (x ∷ xs) (suc i) v e = let t = sum_at xs i v e in let a = sum_by-cons f x xs in omega arith

  pub sum_two : (vs : List A) (i j : ℕ) (v u : A) → i ≢ j → get_elem? vs i ≡ some v → get_elem? vs j ≡ some u → f v + f u ≤ sum_by f vs
  sum_two [] i j v u ne e h = absurd (some-ne-none v (sym e))
  sum_two (x ∷ xs) zero zero v u ne e h = absurd (ne refl)
  sum_two (x ∷ xs) zero (suc j) v u ne e h = let t : f x ≡ f v = ap f (some-injective x v e) in let a = sum_by-cons f x xs in let b = sum_at xs j u h in omega arith
  sum_two (x ∷ xs) (suc i) zero v u ne e h = let t : f x ≡ f u = ap f (some-injective x u h) in let a = sum_by-cons f x xs in let b = sum_at xs i v e in omega arith
  sum_two (x ∷ xs) (suc i) (suc j) v u ne e h = let t = sum_two xs i j v u (λ q. ne (ap suc q)) e h in let a = sum_by-cons f x xs in omega arith

  -- some element counts
  pub sum_find : (vs : List A) → 1 ≤ sum_by f vs → (j : ℕ) × (v : A) × (get_elem? vs j ≡ some v) × (1 ≤ f v)
  sum_find [] h = absurd (omega arith)
  sum_find (x ∷ xs) h = dite (dec_le 1 (f x))
      (λ here. (0, x, refl, here))
      (λ not_here. let a = sum_by-cons f x xs in let t = sum_find xs (omega arith) in (suc t.0, t.1, t.2, t.3))

  pub sum_zero : (vs : List A) → ((j : ℕ) (u : A) → get_elem? vs j ≡ some u → f u ≡ 0) → sum_by f vs ≡ 0
  sum_zero [] none = refl
  sum_zero (x ∷ xs) none = let a = sum_by-cons f x xs in let t = none 0 x refl in let b = sum_zero xs (λ j u e. none (suc j) u e) in omega arith

  -- one element grew by n
  pub sum_grown : (vs : List A) (i : ℕ) (v w : A) (n : ℕ) → get_elem? vs i ≡ some v → f w ≡ f v + n → sum_by f (set vs i w) ≡ sum_by f vs + n
  sum_grown vs i v w n at is = let t = sum_set vs i v w at in omega arith

  -- one element was cut in two
  pub sum_cut : (vs : List A) (i : ℕ) (v left right : A) → get_elem? vs i ≡ some v → f left + f right ≡ f v → sum_by f (set vs i left ++ right ∷ []) ≡ sum_by f vs
  sum_cut vs i v left right at is = let t = sum_set vs i v left at in let u = sum_by_push f (set vs i left) right in omega arith

  -- two elements were made one
  pub sum_joined : (vs : List A) (i j : ℕ) (v w both rest : A) → get_elem? vs i ≡ some v → get_elem? (set vs i both) j ≡ some w → f both + f rest ≡ f v + f w → sum_by f (set (set vs i both) j rest) ≡ sum_by f vs
  sum_joined vs i j v w both rest at there is = let t = sum_set vs i v both at in let u = sum_set (set vs i both) j w rest there in omega arith

module _ {A : Type 0} (f g : A → ℕ) where
  pub sum_le : (vs : List A) → ((j : ℕ) (u : A) → get_elem? vs j ≡ some u → f u ≤ g u) → sum_by f vs ≤ sum_by g vs
  sum_le [] le = omega arith
  sum_le (x ∷ xs) le = let a = sum_by-cons f x xs in let b = sum_by-cons g x xs in let t = le 0 x refl in let h = sum_le xs (λ j u e. le (suc j) u e) in omega arith

  -- one element has all of g: where g is nothing, f is nothing
  pub sum_only : (vs : List A) (i : ℕ) (v : A) → get_elem? vs i ≡ some v → sum_by g vs ≡ g v → ((j : ℕ) (u : A) → get_elem? vs j ≡ some u → g u ≡ 0 → f u ≡ 0) → sum_by f vs ≡ f v
  sum_only [] i v at all none = absurd (some-ne-none v (sym at))
  sum_only (x ∷ xs) zero v at all none =
      let a = sum_by-cons f x xs in
      let b = sum_by-cons g x xs in
      let t : f x ≡ f v = ap f (some-injective x v at) in
      let u : g x ≡ g v = ap g (some-injective x v at) in
      let rest : sum_by g xs ≡ 0 = omega arith in
      let z = sum_zero f xs (λ j u e. let h = sum_at g xs j u e in none (suc j) u e (omega arith)) in omega arith
  sum_only (x ∷ xs) (suc i) v at all none =
      let a = sum_by-cons f x xs in
      let b = sum_by-cons g x xs in
      let c = sum_at g xs i v at in
      let z = none 0 x refl (omega arith) in
      let t = sum_only xs i v at (omega arith) (λ j u e. none (suc j) u e) in omega arith

pub weight_le : (b : Bool) → one_if b ≤ 1
weight_le true = omega arith
weight_le false = omega arith

pub weight_lt : (a b : ℕ) → a < b → one_if (ltb a b) ≡ 1
weight_lt a b h = ap one_if (lt-ltb a b h)

pub weight_ge : (a b : ℕ) → b ≤ a → one_if (ltb a b) ≡ 0
weight_ge a b h = ap one_if (le-ltb a b h)

pub weight_eq : (a b : ℕ) → a ≡ b → one_if (eqb a b) ≡ 1
weight_eq a b h = ap one_if (eq-eqb a b h)

weight_ne : (a b : ℕ) → a ≢ b → one_if (eqb a b) ≡ 0
weight_ne a b h = ap one_if (ne_eqb a b h)

-- the numbers below k and k are those below k + 1
pub weight_next : (n k : ℕ) → one_if (ltb n k) + one_if (eqb k n) ≡ one_if (ltb n (k + 1))
weight_next n k = dite (ℕ_discrete k n)
    (λ is. let a = weight_eq k n is in let b = weight_ge n k (omega arith) in let c = weight_lt n (k + 1) (omega arith) in omega arith)
    (λ not_it. let a = weight_ne k n not_it in dite (dec_le k n)
    (λ over. let b = weight_ge n k over in let c = weight_ge n (k + 1) (omega arith) in omega arith)
    (λ under. let b = weight_lt n k (omega arith) in let c = weight_lt n (k + 1) (omega arith) in omega arith))

pub times-push : (n : ℕ) (xs : List ℕ) (m : ℕ) → times n (xs ++ m ∷ []) ≡ times n xs + one_if (eqb m n)
times-push n xs m = sum_by_push (λ (x : ℕ). one_if (eqb x n)) xs m

pub times-cons : (n m : ℕ) (xs : List ℕ) → times n (m ∷ xs) ≡ one_if (eqb m n) + times n xs
times-cons n m xs = sum_by-cons (λ (x : ℕ). one_if (eqb x n)) m xs

pub times-append : (n : ℕ) (xs ys : List ℕ) → times n (xs ++ ys) ≡ times n xs + times n ys
times-append n xs ys = sum_by-append (λ (x : ℕ). one_if (eqb x n)) xs ys

pub times_at : (xs : List ℕ) (n k : ℕ) → k < length xs → get_or xs k n ≡ n → 1 ≤ times n xs
times_at [] n k inside is = absurd (omega arith)
times_at (x ∷ xs) n zero inside is = let a = times-cons n x xs in let b = weight_eq x n is in omega arith
times_at (x ∷ xs) n (suc k) inside is = let a = times-cons n x xs in let b = times_at xs n k (omega arith) is in omega arith

pub contains_of_times : (xs : List ℕ) (n : ℕ) → 1 ≤ times n xs → Contains xs n
contains_of_times [] n h = absurd (omega arith)
contains_of_times (x ∷ xs) n h = dite (ℕ_discrete x n)
    (λ is. (0, omega arith, is))
    (λ not_it. let a = times-cons n x xs in let b = weight_ne x n not_it in let t = contains_of_times xs n (omega arith) in (suc t.0, (let u = t.1 in omega arith), t.2))
