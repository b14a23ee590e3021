-- Marks by numbers.
use Rattle.std.proofs.Common.{◌≡◌, ℕ, ◌<◌, ◌==◌, Bool, true, false, length, map, replicate, slice_set, List, [], ◌∷◌, refl, subst, arith, All, rules}
use Rattle.std.proofs.lemmas.Bool.{ne_eqb}
use Rattle.std.proofs.lemmas.List.{map-set}
use Rattle.std.proofs.lemmas.List.Elements.{All-head, All-tail}

-- no number is the latest one where that is above all
pub cleared : (xs : List ℕ) (m n : ℕ) → All (λ x. x < m) xs → length xs ≡ n → map (λ x. x == m) xs ≡ replicate n false
cleared [] m n all len = let P : ℕ → Type 0 = λ k. [] ≡ replicate k false in subst P len refl
cleared (x ∷ xs) m n all len =
    let less : x < m = All-head (λ y. y < m) x xs all in
    let here : (x == m) ≡ false = ne_eqb x m (λ e. absurd (omega arith)) in
    let rest : map (λ y. y == m) xs ≡ replicate (length xs) false = cleared xs m (length xs) (All-tail (λ y. y < m) x xs all) refl in
    let both : map (λ y. y == m) (x ∷ xs) ≡ replicate (length (x ∷ xs)) false = grind arith in
    let P : ℕ → Type 0 = λ k. map (λ y. y == m) (x ∷ xs) ≡ replicate k false in subst P len both

same_number : (m : ℕ) → (m == m) ≡ true
same_number m = search rules

-- the cell that gets the latest number is marked
pub marked : (xs : List ℕ) (m cell : ℕ) → map (λ x. x == m) (slice_set xs cell m) ≡ slice_set (map (λ x. x == m) xs) cell true
marked xs m cell =
    let P : Bool → Type 0 = λ b. map (λ x. x == m) (slice_set xs cell m) ≡ slice_set (map (λ x. x == m) xs) cell b in
    subst P (same_number m) (map-set (λ x. x == m) xs cell m)
