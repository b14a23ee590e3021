-- A cell looked for among ascending ones, and the two cells of a side.
use Rattle.std.proofs.Common.{◌≡◌, ℕ, zero, suc, ◌<◌, ◌≤◌, inl, inr, length, slice_get, get_or, Contains, List, Option, Some, Err, sym, subst, arith}
use Rattle.std.specs.List.Sorted.{IsBinarySearchResult}
use Rattle.std.specs.Ordering.{nat_cmp}
use Rattle.std.proofs.lemmas.Bool.{cases_lt}
use Rattle.std.proofs.lemmas.Option.{slice_get-get_or}
use Rattle.std.proofs.lemmas.Grind.{get_or_default_zero}
use Rattle.std.proofs.lemmas.List.Sorted.{searched}
use Rattle.patch_layout.specs.Case.{Ascending}

-- no later cell is less
ascends : (cells : List ℕ) → Ascending cells → (i j : ℕ) → i ≤ j → j < length cells → get_or cells i 0 ≤ get_or cells j 0
ascends cells up i zero le lt =
    let same : i ≡ zero = omega arith in
    let P : ℕ → Type 0 = λ x. get_or cells x 0 ≤ get_or cells zero 0 in
    subst P (sym same) (omega arith)
ascends cells up i (suc j) le lt = elim (cases_lt i (suc j)) [
  | inl less ↦
      let before : get_or cells i 0 ≤ get_or cells j 0 = ascends cells up i j (omega arith) (omega arith) in
      let step : get_or cells j 0 < get_or cells (suc j) 0 =
      up j (get_or cells j 0) (get_or cells (suc j) 0) (slice_get-get_or cells j 0 (omega arith))
      (subst (λ (x : ℕ). slice_get cells x ≡ Some (get_or cells (suc j) 0)) (omega arith) (slice_get-get_or cells (suc j) 0 lt)) in
      omega (arith, before, step)
  | inr ge ↦
      let same : i ≡ suc j = omega arith in
      let P : ℕ → Type 0 = λ x. get_or cells x 0 ≤ get_or cells (suc j) 0 in
      subst P (sym same) (omega arith)
]

-- a search among ascending cells that finds none
pub placed_nowhere : (cells : List ℕ) (x i : ℕ) → Ascending cells → IsBinarySearchResult (λ y. nat_cmp y x) cells (Err i) → Contains cells x → ⊥
placed_nowhere cells x i up is (k, inside, here) =
    let at = searched cells x (Err i) is (ascends cells up) in
    let zero-is : get_or cells k x ≡ get_or cells k 0 = get_or_default_zero cells k x inside in
    between k inside (subst (λ (y : ℕ). y ≡ x) zero-is here) at.1 at.2
  where
    between : (k : ℕ) → k < length cells → get_or cells k 0 ≡ x → ((k : ℕ) → k < i → get_or cells k 0 < x) → ((k : ℕ) → i ≤ k → k < length cells → x < get_or cells k 0) → ⊥
    between k inside here below above = grind (arith, below k, above k)
