-- Lists of views and of entries, after one change.
use Rattle.std.proofs.Common.{◌≡◌, ◌≢◌, ℕ, zero, suc, ◌+◌, ◌<◌, ◌≤◌, ◌⊎◌, Bool, true, false, List, [], ◌∷◌, ◌++◌, length, get_or, set, refl, sym, ap, ◌∙◌, subst, inl, inr, ⊎_elim, arith, length-append, append_assoc, eq-eqb, ne_eqb}
use Rattle.std.proofs.lemmas.List.Elements.{filter-append, All-append}
use Rattle.std.proofs.lemmas.Grind.{common_steps}
use Rattle.std.proofs.lemmas.List.{get_or_append_left}
use Rattle.std.specs.List.{All, Any}
use mathlib.Core.Option.{some, some-injective, some-ne-none}
use mathlib.Core.Logic.{dite}
use native.Mathlib.Decide.{ℕ_discrete}
use lib.ListN.{get_elem?}
use Rattle.atomic_table.proofs.Lists.{at_set, set_here, set_else}
use Rattle.board_core.specs.declared.Noted.{Noted}
use Rattle.grid_lock.specs.declared.view.View.{View}
use Rattle.grid_lock.specs.Views.{entries_by, Extends}
use Rattle.grid_lock.specs.Turn.{weight, tally, Somewhere}

pub entries_mine : (n : ℕ) (log : List Noted) (e : Noted) → e.by ≡ n → entries_by n (log ++ e ∷ []) ≡ entries_by n log ++ e ∷ []
entries_mine n log e is = let t = eq-eqb e.by n is in grind (arith, filter-append)

pub entries_other : (n : ℕ) (log : List Noted) (e : Noted) → e.by ≢ n → entries_by n (log ++ e ∷ []) ≡ entries_by n log
entries_other n log e not = let t = ne_eqb e.by n not in grind (arith, common_steps, filter-append)

-- where all entries have the number 0, they are those of pass 0, and no other pass has any
pub only_zero : (log : List Noted) → All (λ (e : Noted). e.by ≡ 0) log → (entries_by 0 log ≡ log) × ((m : ℕ) → 0 < m → entries_by m log ≡ [])
only_zero [] all = (refl, λ m more. refl)
only_zero (e ∷ es) all =
    let by : e.by ≡ 0 = all 0 e (omega arith) in
    let rest = only_zero es (λ k d h. all (suc k) d (omega arith)) in (
      (let t = eq-eqb e.by 0 by in let r = rest.0 in grind (arith, common_steps)),
      (λ m more. let t = ne_eqb e.by m (λ is. omega arith) in let r = rest.1 m more in grind (arith, common_steps)),
    )

pub extends_longer : (log seen more : List Noted) → Extends log seen → Extends (log ++ more) seen
extends_longer log seen more begun = (begun.0 ++ more, ap (λ l. l ++ more) begun.1 ∙ append_assoc seen begun.0 more)

module _ {A : Type 0} where
  pub at_end : (l : List A) (a b : A) (j : ℕ) → get_elem? (l ++ a ∷ []) j ≡ some b → (get_elem? l j ≡ some b) ⊎ ((j ≡ length l) × (a ≡ b))
  at_end [] a b zero e = inr (refl, some-injective a b e)
  at_end [] a b (suc j) e = absurd (some-ne-none b (sym e))
  at_end (x ∷ xs) a b zero e = inl e
  at_end (x ∷ xs) a b (suc j) e = ⊎_elim (λ t. inl t) (λ t. inr (ap suc t.0, t.1)) (at_end xs a b j e)

  pub at_inside : (l : List A) (i : ℕ) (a : A) → get_elem? l i ≡ some a → i < length l
  at_inside [] i a e = absurd (some-ne-none a (sym e))
  at_inside (x ∷ xs) zero a e = omega arith
  at_inside (x ∷ xs) (suc i) a e = let h = at_inside xs i a e in omega arith

  pub there : (l : List A) (i : ℕ) → i < length l → (a : A) × (get_elem? l i ≡ some a)
  there [] i h = absurd (omega arith)
  there (x ∷ xs) zero h = (x, refl)
  there (x ∷ xs) (suc i) h = there xs i (omega arith)

  pub any_longer : (P : A → Type 0) (xs ys : List A) → Any P xs → Any P (xs ++ ys)
  any_longer P xs ys a = (a.0, a.1, (let h = a.2 in omega (arith, length-append xs ys)), (let h = a.2 in get_or_append_left xs ys a.1 a.0 h ∙ a.3), a.4)

  pub all_more : (P : A → Type 0) (xs : List A) (y : A) → All P xs → P y → All P (xs ++ y ∷ [])
  all_more P xs y all here = All-append P xs (y ∷ []) all (λ k d h. subst (λ (j : ℕ). P (get_or (y ∷ []) j d)) (let z : 0 ≡ k = omega arith in z) here)

pub off : (b : Bool) → b ≡ false → weight b ≡ 0
off b is = ap weight is

pub on : (b : Bool) → b ≡ true → weight b ≡ 1
on b is = ap weight is

-- what holds of each view, after one view changed
pub each_set : (P Q : ℕ → View → Type 0) (vs : List View) (i : ℕ) (w : View) → Q i w → ((j : ℕ) (u : View) → j ≢ i → get_elem? vs j ≡ some u → P j u → Q j u)
    → ((j : ℕ) (u : View) → get_elem? vs j ≡ some u → P j u) → (j : ℕ) (u : View) → get_elem? (set vs i w) j ≡ some u → Q j u
each_set P Q vs i w mine others all j u e = ⊎_elim (λ (t : (j ≡ i) × (w ≡ u)). subst (λ (z : ℕ × View). Q z.0 z.1) (λ k. (sym t.0 k, t.1 k)) mine)
    (λ (t : (j ≢ i) × (get_elem? vs j ≡ some u)). others j u t.0 t.1 (all j u t.1)) (at_set vs i j w u e)

module _ (P : View → Type 0) (vs : List View) (i : ℕ) (v w : View) (at : get_elem? vs i ≡ some v) where
  -- the changed view has P
  pub some_here : P w → Somewhere P (set vs i w)
  some_here here = (i, w, set_here vs i w (at_inside vs i v at), here)

  -- some view still has P
  pub some_set : (P v → P w) → Somewhere P vs → Somewhere P (set vs i w)
  some_set on x = dite (ℕ_discrete x.0 i)
      (λ is. some_here (on (subst P (some-injective x.1 v (sym x.2 ∙ (ap (get_elem? vs) is ∙ at))) x.3)))
      (λ away. (x.0, x.1, set_else vs i x.0 w away ∙ x.2, x.3))

module _ (p : View → Bool) where
  abbrev one : View → ℕ
  one v = weight (p v)

  pub tally_set : (vs : List View) (i : ℕ) (v w : View) → get_elem? vs i ≡ some v → tally p (set vs i w) + weight (p v) ≡ tally p vs + weight (p w)
  tally_set [] i v w e = absurd (some-ne-none v (sym e))
  tally_set (x ∷ xs) zero v w e = let t : one x ≡ one v = ap one (some-injective x v e) in omega arith
  tally_set (x ∷ xs) (suc i) v w e = let t = tally_set xs i v w e in omega arith

  pub tally_same : (vs : List View) (i : ℕ) (v w : View) → get_elem? vs i ≡ some v → p w ≡ p v → tally p (set vs i w) ≡ tally p vs
  tally_same vs i v w e same = let t = tally_set vs i v w e in let s : one w ≡ one v = ap weight same in omega arith

  pub tally_snoc : (vs : List View) (w : View) → tally p (vs ++ w ∷ []) ≡ tally p vs + weight (p w)
  tally_snoc [] w = omega arith
  tally_snoc (x ∷ xs) w = let t = tally_snoc xs w in omega arith

  pub tally_at : (vs : List View) (i : ℕ) (v : View) → get_elem? vs i ≡ some v → p v ≡ true → 1 ≤ tally p vs
  tally_at [] i v e is = absurd (some-ne-none v (sym e))
  tally_at (x ∷ xs) zero v e is = let t : one x ≡ 1 = ap one (some-injective x v e) ∙ ap weight is in omega arith
  tally_at (x ∷ xs) (suc i) v e is = let t = tally_at xs i v e is in omega arith

  pub tally_two : (vs : List View) (i j : ℕ) (v u : View) → i ≢ j → get_elem? vs i ≡ some v → get_elem? vs j ≡ some u → p v ≡ true → p u ≡ true → 2 ≤ tally p vs
  tally_two [] i j v u ne e f is too = absurd (some-ne-none v (sym e))
  tally_two (x ∷ xs) zero zero v u ne e f is too = absurd (ne refl)
  tally_two (x ∷ xs) zero (suc j) v u ne e f is too = let t : one x ≡ 1 = ap one (some-injective x v e) ∙ ap weight is in let h = tally_at xs j u f too in omega arith
  tally_two (x ∷ xs) (suc i) zero v u ne e f is too = let t : one x ≡ 1 = ap one (some-injective x u f) ∙ ap weight too in let h = tally_at xs i v e is in omega arith
  tally_two (x ∷ xs) (suc i) (suc j) v u ne e f is too = let t = tally_two xs i j v u (λ h. ne (ap suc h)) e f is too in omega arith

  at_most : (b : Bool) → weight b ≤ 1
  at_most true = omega arith
  at_most false = omega arith

  pub tally_le : (vs : List View) → tally p vs ≤ length vs
  tally_le [] = omega arith
  tally_le (x ∷ xs) = let t = tally_le xs in let h = at_most (p x) in omega arith

  is_one : (b : Bool) → 1 ≤ weight b → b ≡ true
  is_one true h = refl
  is_one false h = absurd (omega arith)

  -- where the test passes as often as there are views, each view passes it
  pub tally_full : (vs : List View) → length vs ≤ tally p vs → (j : ℕ) (u : View) → get_elem? vs j ≡ some u → p u ≡ true
  tally_full [] full j u e = absurd (some-ne-none u (sym e))
  tally_full (x ∷ xs) full zero u e = let t = tally_le xs in ap p (sym (some-injective x u e)) ∙ is_one (p x) (omega arith)
  tally_full (x ∷ xs) full (suc j) u e = let h = at_most (p x) in tally_full xs (omega arith) j u e

  -- where it passes at all views but the first, each later view passes it
  pub tally_rest : (vs : List View) (v : View) → get_elem? vs 0 ≡ some v → p v ≡ false → length vs ≤ tally p vs + 1 → (j : ℕ) (u : View) → j ≢ 0 → get_elem? vs j ≡ some u → p u ≡ true
  tally_rest [] v first not full j u ne e = absurd (some-ne-none u (sym e))
  tally_rest (x ∷ xs) v first not full zero u ne e = absurd (ne refl)
  tally_rest (x ∷ xs) v first not full (suc j) u ne e = let t : one x ≡ 0 = ap one (some-injective x v first) ∙ ap weight not in tally_full xs (omega arith) j u e

  pub tally_none : (vs : List View) → ((j : ℕ) (u : View) → get_elem? vs j ≡ some u → p u ≡ false) → tally p vs ≡ 0
  tally_none [] none = refl
  tally_none (x ∷ xs) none = let t : one x ≡ 0 = ap weight (none 0 x refl) in let h = tally_none xs (λ j u e. none (suc j) u e) in omega arith
