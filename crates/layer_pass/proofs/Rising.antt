-- Numbers that rise from place to place.
use Rattle.std.proofs.Common.{◌≡◌, ℕ, zero, suc, ◌+◌, ◌-◌, ◌<◌, ◌≤◌, List, [], ◌∷◌, ◌++◌, length, get_or, inl, inr, arith}
use Rattle.std.specs.Prelude.{All}
use Rattle.std.specs.List.Sorted.{IsStrictlyIncreasing}
use Rattle.std.proofs.lemmas.Bool.{cases_lt}
use Rattle.std.proofs.lemmas.List.{get_or_append_left, get_or_push, length_push}

pub rising_le : (row : List ℕ) → IsStrictlyIncreasing row → (i d : ℕ) → i + d < length row → get_or row i 0 ≤ get_or row (i + d) 0
rising_le row up i zero h = let e : i + 0 ≡ i = omega arith in rw e (omega arith)
rising_le row up i (suc d) h =
    let before = rising_le row up i d (omega arith) in
    let step = up (i + d) (omega arith) in
    let e : i + suc d ≡ i + d + 1 = omega arith in
    rw e (omega arith)

-- of two numbers the lower stands before the other
pub lower_first : (row : List ℕ) → IsStrictlyIncreasing row → (i j : ℕ) → i < length row → get_or row i 0 < get_or row j 0 → j < length row → i < j
lower_first row up i j h less k =
    elim (cases_lt i j) [
      | inl before ↦ before
      | inr after ↦
          let e : j + (i - j) ≡ i = omega arith in
          let le = rising_le row up j (i - j) (omega arith) in
          let le' : get_or row j 0 ≤ get_or row i 0 = rw e at le in
          absurd (omega arith)
    ]

-- a number above all others goes to the end
pub rising-push : (row : List ℕ) (p : ℕ) → IsStrictlyIncreasing row → All (λ j. j < p) row → IsStrictlyIncreasing (row ++ p ∷ [])
rising-push row p up all k h =
    let size = length_push row p in
    let here = get_or_append_left row (p ∷ []) 0 k (omega arith) in
    elim (cases_lt (k + 1) (length row)) [
      | inl inside ↦
          let next = get_or_append_left row (p ∷ []) 0 (k + 1) inside in
          let step = up k inside in
          omega arith
      | inr last ↦
          let next = get_or_push row p 0 (k + 1) (omega arith) in
          let less = all k 0 (omega arith) in
          omega arith
    ]

-- of two places the first has the lower number
pub rises : (row : List ℕ) → IsStrictlyIncreasing row → (i j : ℕ) → i < j → j < length row → get_or row i 0 < get_or row j 0
rises row up i j h l =
    let step = up i (omega arith) in
    let e : i + 1 + (j - (i + 1)) ≡ j = omega arith in
    let le = rising_le row up (i + 1) (j - (i + 1)) (omega arith) in
    let le' : get_or row (i + 1) 0 ≤ get_or row j 0 = rw e at le in
    omega arith
