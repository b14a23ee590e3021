-- The failing runs of a factory, and its store.
use Rattle.std.proofs.Common.{◌≡◌, ℕ, zero, suc, ◌+◌, ◌<◌, ◌≤◌, Bool, true, false, ◌&&◌, ◌||◌, nat_eq, List, [], ◌∷◌, ◌++◌, length, get_or, take, Result, Ok, Err, refl, arith, sym, eq-eqb, ne_eqb}
use Rattle.std.specs.List.{list_any}
use Rattle.std.specs.List.Sorted.{IsNonDecreasing, IsBinarySearchResult}
use Rattle.std.specs.Ordering.{nat_cmp}
use Rattle.std.specs.Result.{is_ok}
use Rattle.std.proofs.lemmas.List.{take_more}
use Rattle.std.proofs.lemmas.List.Folds.{list_any-append}
use Rattle.std.proofs.lemmas.List.Sorted.{searched}
use Rattle.magic_pool.specs.declared.Fail.{Fail}
use Rattle.magic_pool.specs.Recount.{is_listed}

any_at : (xs : List ℕ) (x i : ℕ) → i < length xs → get_or xs i 0 ≡ x → list_any (λ y. nat_eq y x) xs ≡ true
any_at [] x i inside here = absurd (omega arith)
any_at (y ∷ ys) x zero inside here = rw (eq-eqb y x here) refl
any_at (y ∷ ys) x (suc i) inside here = rw (any_at ys x i (omega arith) here) (or_true (nat_eq y x))
  where
    or_true : (b : Bool) → (b || true) ≡ true
    or_true true = refl
    or_true false = refl

none_at : (xs : List ℕ) (x : ℕ) → ((k : ℕ) → k < length xs → get_or xs k 0 ≡ x → ⊥) → list_any (λ y. nat_eq y x) xs ≡ false
none_at [] x none = refl
none_at (y ∷ ys) x none =
    rw (ne_eqb y x (none 0 (omega arith)), none_at ys x (λ k inside. none (suc k) (omega arith))) refl

-- what a search among ascending runs answers
pub is_ok-among : (xs : List ℕ) (x : ℕ) (r : Result ℕ ℕ) → IsNonDecreasing xs → IsBinarySearchResult (λ y. nat_cmp y x) xs r → is_ok r ≡ list_any (λ y. nat_eq y x) xs
is_ok-among xs x (Ok i) up found =
    let at = searched xs x (Ok i) found (λ i j. up i j 0) in
    sym (any_at xs x i at.0 at.1)
is_ok-among xs x (Err i) up found =
    let at = searched xs x (Err i) found (λ i j. up i j 0) in
    sym (none_at xs x (λ k inside here. before_or_behind k inside here at.1 at.2))
  where
    before_or_behind : (k : ℕ) → k < length xs → get_or xs k 0 ≡ x → ((k : ℕ) → k < i → get_or xs k 0 < x) → ((k : ℕ) → i ≤ k → k < length xs → x < get_or xs k 0) → ⊥
    before_or_behind k inside here below above = grind (arith, below k, above k)

-- one more listed run
is_listed-push : (fails : List Fail) (x : Fail) (f run : ℕ) → is_listed (fails ++ x ∷ []) f run ≡ (is_listed fails f run || (nat_eq x.factory f && nat_eq x.run run))
is_listed-push [] x f run = or_false (nat_eq x.factory f && nat_eq x.run run)
  where
    or_false : (b : Bool) → (b || false) ≡ b
    or_false true = refl
    or_false false = refl
is_listed-push (y ∷ fails) x f run = rw (is_listed-push fails x f run) (or_or (nat_eq y.factory f && nat_eq y.run run) (is_listed fails f run) (nat_eq x.factory f && nat_eq x.run run))
  where
    or_or : (a b c : Bool) → (a || (b || c)) ≡ ((a || b) || c)
    or_or true b c = refl
    or_or false b c = refl

-- a run of the factory, or of another one
listed_more : (fails : List Fail) (x : Fail) (f run : ℕ) (runs : List ℕ) → x.factory ≡ f → list_any (λ r. nat_eq r run) runs ≡ is_listed fails f run
    → list_any (λ r. nat_eq r run) (runs ++ x.run ∷ []) ≡ is_listed (fails ++ x ∷ []) f run
listed_more fails x f run runs here so_far =
    rw (list_any-append (λ r. nat_eq r run) runs (x.run ∷ []), is_listed-push fails x f run, so_far, eq-eqb x.factory f here) (both (is_listed fails f run) (nat_eq x.run run))
  where
    both : (a b : Bool) → (a || (b || false)) ≡ (a || b)
    both true b = refl
    both false true = refl
    both false false = refl

listed_same : (fails : List Fail) (x : Fail) (f run : ℕ) (runs : List ℕ) → (x.factory ≡ f → ⊥) → list_any (λ r. nat_eq r run) runs ≡ is_listed fails f run
    → list_any (λ r. nat_eq r run) runs ≡ is_listed (fails ++ x ∷ []) f run
listed_same fails x f run runs other so_far =
    rw (is_listed-push fails x f run, so_far, ne_eqb x.factory f other) (or_false (is_listed fails f run))
  where
    or_false : (a : Bool) → a ≡ (a || false)
    or_false true = refl
    or_false false = refl

-- one more of the listed runs is passed
pub listed_here : (fails : List Fail) (i : ℕ) (d : Fail) (f run : ℕ) (runs after : List ℕ) → i < length fails → (get_or fails i d).factory ≡ f → after ≡ runs ++ (get_or fails i d).run ∷ []
    → list_any (λ r. nat_eq r run) runs ≡ is_listed (take i fails) f run → list_any (λ r. nat_eq r run) after ≡ is_listed (take (i + 1) fails) f run
listed_here fails i d f run runs after inside here is so_far =
    rw (is, take_more fails i d inside) (listed_more (take i fails) (get_or fails i d) f run runs here so_far)

pub listed_elsewhere : (fails : List Fail) (i : ℕ) (d : Fail) (f run : ℕ) (runs : List ℕ) → i < length fails → ((get_or fails i d).factory ≡ f → ⊥)
    → list_any (λ r. nat_eq r run) runs ≡ is_listed (take i fails) f run → list_any (λ r. nat_eq r run) runs ≡ is_listed (take (i + 1) fails) f run
listed_elsewhere fails i d f run runs inside other so_far =
    rw (take_more fails i d inside) (listed_same (take i fails) (get_or fails i d) f run runs other so_far)
