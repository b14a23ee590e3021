-- Legal histories one entry at a time.
use Rattle.std.proofs.Common.{◌≡◌, ℕ, zero, suc, ◌<◌, ◌≤◌, Bool, true, ◌⊎◌, List, [], ◌∷◌, ◌++◌, length, take, Some, None, is_some, position, slice_get, refl, ap, sym, ◌∙◌, inl, inr, arith, subst}
use Rattle.std.proofs.lemmas.Bool.{or_cases, or_left, or_right, true≢false, false_from_ne_true}
use Rattle.std.proofs.lemmas.Option.{same_Some, none-some}
use Rattle.std.proofs.lemmas.List.{take-append-le}
use Rattle.std.proofs.Math.Seq.{take-append_seam}
use Rattle.board_core.specs.declared.Entry.{Entry}
use Rattle.board_core.specs.History.{History}
use Rattle.board_core.specs.Legal.{BoardJob, Allowed, Legal}
use Rattle.board_core.proofs.Places.{place_cons, none_of}
use Rattle.board_core.proofs.LegalOrder.{at_end}

pub get_take : {A : Type 0} (xs : List A) (n k : ℕ) → k < n → slice_get (take n xs) k ≡ slice_get xs k
get_take [] zero k l = absurd (omega arith)
get_take [] (suc n) k l = refl
get_take (x ∷ xs) zero k l = absurd (omega arith)
get_take (x ∷ xs) (suc n) zero l = refl
get_take (x ∷ xs) (suc n) (suc k) l = get_take xs n k (omega arith)

pub take_take : {A : Type 0} (xs : List A) (m n : ℕ) → m ≤ n → take m (take n xs) ≡ take m xs
take_take xs zero n l = refl
take_take [] (suc m) zero l = absurd (omega arith)
take_take [] (suc m) (suc n) l = refl
take_take (x ∷ xs) (suc m) zero l = absurd (omega arith)
take_take (x ∷ xs) (suc m) (suc n) l = ap (λ t. x ∷ t) (take_take xs m n (omega arith))

-- an entry of the beginning
pub within_take : {A : Type 0} (xs : List A) (n k : ℕ) (x : A) → slice_get (take n xs) k ≡ Some x → (k < n) × (slice_get xs k ≡ Some x)
within_take [] zero k x e = absurd (none-some x e)
within_take [] (suc n) k x e = absurd (none-some x e)
within_take (y ∷ xs) zero k x e = absurd (none-some x e)
within_take (y ∷ xs) (suc n) zero x e = (omega arith, e)
within_take (y ∷ xs) (suc n) (suc k) x e = let r = within_take xs n k x e in (omega arith, r.1)

pub get_append : {A : Type 0} (xs : List A) (y : A) (k : ℕ) → k < length xs → slice_get (xs ++ y ∷ []) k ≡ slice_get xs k
get_append [] y k l = absurd (omega arith)
get_append (x ∷ xs) y zero l = refl
get_append (x ∷ xs) y (suc k) l = get_append xs y k (omega arith)

-- an entry of a history with one more
pub last_or_before : {A : Type 0} (xs : List A) (y : A) (k : ℕ) (x : A) → slice_get (xs ++ y ∷ []) k ≡ Some x → ((k < length xs) × (slice_get xs k ≡ Some x)) ⊎ ((k ≡ length xs) × (x ≡ y))
last_or_before [] y zero x e = inr (refl, sym (same_Some y x e))
last_or_before [] y (suc k) x e = absurd (none-some x e)
last_or_before (z ∷ xs) y zero x e = inl (omega arith, e)
last_or_before (z ∷ xs) y (suc k) x e = elim (last_or_before xs y k x e) [ inl r ↦ inl (omega arith, r.1) | inr r ↦ inr (ap suc r.0, r.1) ]

pub legal_empty : (j : BoardJob) → Legal j []
legal_empty j n e f = absurd (none-some e f)

pub legal_take : (j : BoardJob) (h : History) (n : ℕ) → Legal j h → Legal j (take n h)
legal_take j h n legal m e f =
    let r = within_take h n m e f in
    subst (λ g. Allowed j g e) (sym (take_take h m n (omega arith))) (legal m e r.1)

pub legal_next : (j : BoardJob) (h : History) (e : Entry) → Legal j h → Allowed j h e → Legal j (h ++ e ∷ [])
legal_next j h e legal a m x f =
    elim (last_or_before h e m x f) [
      | inl r ↦ subst (λ g. Allowed j g x) (sym (take-append-le m h (e ∷ []) (omega arith))) (legal m x r.1)
      | inr r ↦
          subst (λ k. Allowed j (take k (h ++ e ∷ [])) x) (sym r.0)
          (subst (λ g. Allowed j g x) (sym (take-append_seam h (e ∷ []))) (subst (λ y. Allowed j h y) (sym r.1) a))
    ]

pub legal_back : (j : BoardJob) (h : History) (e : Entry) → Legal j (h ++ e ∷ []) → Legal j h × Allowed j h e
legal_back j h e legal = (
  subst (Legal j) (take-append_seam h (e ∷ [])) (legal_take j (h ++ e ∷ []) (length h) legal),
  subst (λ g. Allowed j g e) (take-append_seam h (e ∷ [])) (legal (length h) e (at_end h e [])),
)

-- what has no place in a history has none in its beginning
pub some_take : {A : Type 0} (test : A → Bool) (xs : List A) (n : ℕ) → is_some (position test (take n xs)) ≡ true → is_some (position test xs) ≡ true
some_take test [] zero s = absurd (true≢false (sym s))
some_take test [] (suc n) s = absurd (true≢false (sym s))
some_take test (x ∷ xs) zero s = absurd (true≢false (sym s))
some_take test (x ∷ xs) (suc n) s =
    place_cons test x xs ∙ elim (or_cases (test x) (is_some (position test (take n xs))) (sym (place_cons test x (take n xs)) ∙ s)) [
      | inl a ↦ or_left (test x) (is_some (position test xs)) a
      | inr b ↦ or_right (test x) (is_some (position test xs)) (some_take test xs n b)
    ]

pub none_take : {A : Type 0} (test : A → Bool) (xs : List A) (n : ℕ) → position test xs ≡ None → position test (take n xs) ≡ None
none_take test xs n e = none_of (position test (take n xs)) (false_from_ne_true (is_some (position test (take n xs))) (λ s. true≢false (sym (some_take test xs n s) ∙ ap is_some e)))
