-- The first of a list of numbers that passes a test, by its place.
use Rattle.std.proofs.Common.{◌≡◌, ℕ, zero, suc, ◌<◌, Bool, true, false, List, [], ◌∷◌, length, get_or, Some, None, inl, inr, refl, ap, sym, ◌∙◌, arith}
use Rattle.std.specs.List.{find}
use Rattle.std.proofs.lemmas.Bool.{cases_Bool, cond-true, cond-false}

-- nothing passes
pub find-none : (test : ℕ → Bool) (row : List ℕ) → ((i : ℕ) → i < length row → test (get_or row i 0) ≡ false) → find test row ≡ None
find-none test [] h = refl
find-none test (x ∷ row) h =
    cond-false (test x) (Some x) (find test row) (h 0 (omega arith))
    ∙ find-none test row (λ i l. h (suc i) (omega arith))

-- the first that passes stands at n
pub find-first : (test : ℕ → Bool) (row : List ℕ) (n : ℕ) → n < length row → ((i : ℕ) → i < n → test (get_or row i 0) ≡ false) → test (get_or row n 0) ≡ true → find test row ≡ Some (get_or row n 0)
find-first test [] n l h t = absurd (omega arith)
find-first test (x ∷ row) zero l h t = cond-true (test x) (Some x) (find test row) t
find-first test (x ∷ row) (suc n) l h t =
    cond-false (test x) (Some x) (find test row) (h 0 (omega arith))
    ∙ find-first test row n (omega arith) (λ i k. h (suc i) (omega arith)) t

-- what stands at n is the first that passes
pub record IsFirstAt (test : ℕ → Bool) (row : List ℕ) (x n : ℕ) : Type 0 where
  pub within : n < length row
  pub is : get_or row n 0 ≡ x
  pub passes : test x ≡ true
  pub before : (i : ℕ) → i < n → test (get_or row i 0) ≡ false

-- a fact of each place of a longer list
each_place : (P : ℕ → Bool) (x : ℕ) (row : List ℕ) (n : ℕ) → P x ≡ false → ((i : ℕ) → i < n → P (get_or row i 0) ≡ false) → (i : ℕ) → i < suc n → P (get_or (x ∷ row) i 0) ≡ false
each_place P x row n here there zero l = here
each_place P x row n here there (suc i) l = there i (omega arith)

pub none_passes : (test : ℕ → Bool) (row : List ℕ) → find test row ≡ None → (i : ℕ) → i < length row → test (get_or row i 0) ≡ false
none_passes test [] e = λ i l. absurd (omega arith)
none_passes test (x ∷ row) e =
    elim (cases_Bool (test x)) [
      | inl passes ↦ absurd (let some : Some x ≡ None = sym (cond-true (test x) (Some x) (find test row) passes) ∙ e in cc)
      | inr fails ↦ each_place test x row (length row) fails (none_passes test row (sym (cond-false (test x) (Some x) (find test row) fails) ∙ e))
    ]

one_later : (test : ℕ → Bool) (x : ℕ) (row : List ℕ) (y : ℕ) → test x ≡ false → (n : ℕ) × IsFirstAt test row y n → (n : ℕ) × IsFirstAt test (x ∷ row) y n
one_later test x row y fails (n, f) = (suc n, record { within = let l = f.within in omega arith; is = f.is; passes = f.passes; before = each_place test x row n fails f.before })

pub found_at : (test : ℕ → Bool) (row : List ℕ) (y : ℕ) → find test row ≡ Some y → (n : ℕ) × IsFirstAt test row y n
found_at test [] y e = absurd (cc)
found_at test (x ∷ row) y e =
    elim (cases_Bool (test x)) [
      | inl passes ↦
          let some : Some x ≡ Some y = sym (cond-true (test x) (Some x) (find test row) passes) ∙ e in
          let same : x ≡ y = cc in
          (0, record { within = omega arith; is = same; passes = sym (ap test same) ∙ passes; before = λ i l. absurd (omega arith) })
      | inr fails ↦ one_later test x row y fails (found_at test row y (sym (cond-false (test x) (Some x) (find test row) fails) ∙ e))
    ]
