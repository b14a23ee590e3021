-- The greatest of numbers, and of the slices of the entries that pass a test.
use Rattle.std.proofs.Common.{◌≡◌, ℕ, zero, suc, ◌+◌, ◌<◌, ◌≤◌, max, Bool, true, false, ◌==◌, ◌||◌, ◌&&◌, if◌then◌else◌, List, [], ◌∷◌, ◌++◌, length, get_or, take, map, refl, ap, sym, ◌∙◌, arith, inl, inr, eqb-true}
use Rattle.std.specs.Prelude.{filter, slice_get, Some}
use Rattle.std.proofs.lemmas.Bool.{true≢false, cases_Bool}
use Rattle.std.proofs.lemmas.List.{map-append, take_more}
use Rattle.std.proofs.lemmas.List.Elements.{filter-append}
use Rattle.board_core.specs.declared.Entry.{Entry}
use Rattle.slice_write.specs.Slices.{Sliced, greatest, greatest_of, is_among, any_of}
use Rattle.slice_write.proofs.Among.{among_here, or_true}

pub greatest-append : (a b : List ℕ) → greatest (a ++ b) ≡ max (greatest a) (greatest b)
greatest-append [] b = omega arith
greatest-append (n ∷ a) b = omega (arith, greatest-append a b)

-- one entry more
pub greatest_more : (t : Entry → Bool) (done : List Sliced) (e : Entry) (n : ℕ) → greatest_of t (done ++ (e, n) ∷ []) ≡ max (greatest_of t done) (if t e then n else 0)
unfolding greatest_of
greatest_more t done e n =
    ap (λ (l : List Sliced). greatest (map (λ (x : Sliced). x.1) l)) (filter-append (λ (x : Sliced). t x.0) done ((e, n) ∷ []))
    ∙ ap greatest (map-append (λ (x : Sliced). x.1) (filter (λ (x : Sliced). t x.0) done) (filter (λ (x : Sliced). t x.0) ((e, n) ∷ [])))
    ∙ greatest-append (map (λ (x : Sliced). x.1) (filter (λ (x : Sliced). t x.0) done)) (map (λ (x : Sliced). x.1) (filter (λ (x : Sliced). t x.0) ((e, n) ∷ [])))
    ∙ ap (max (greatest (map (λ (x : Sliced). x.1) (filter (λ (x : Sliced). t x.0) done)))) (last (t e))
  where
    last : (b : Bool) → greatest (map (λ (x : Sliced). x.1) (if b then ((e, n) ∷ []) else [])) ≡ (if b then n else 0)
    last true = omega arith
    last false = refl

pub greatest_skip : (t : Entry → Bool) (done : List Sliced) (e : Entry) (n : ℕ) → t e ≡ false → greatest_of t (done ++ (e, n) ∷ []) ≡ greatest_of t done
greatest_skip t done e n skips = greatest_more t done e n ∙ rw skips (omega arith)

pub greatest_none : (t : Entry → Bool) → greatest_of t [] ≡ 0
unfolding greatest_of
greatest_none t = refl

pub greatest_cons : (t : Entry → Bool) (x : Sliced) (done : List Sliced) → greatest_of t (x ∷ done) ≡ max (if t x.0 then x.1 else 0) (greatest_of t done)
unfolding greatest_of
greatest_cons t x done = go (t x.0)
  where
    go : (b : Bool) → greatest (map (λ (e : Sliced). e.1) (if b then (x ∷ filter (λ (e : Sliced). t e.0) done) else filter (λ (e : Sliced). t e.0) done)) ≡ max (if b then x.1 else 0) (greatest (map (λ (e : Sliced). e.1) (filter (λ (e : Sliced). t e.0) done)))
    go true = refl
    go false = omega arith

-- no greater than the greatest of all
pub greatest_le : (t : Entry → Bool) (done : List Sliced) → greatest_of t done ≤ greatest (map (λ (x : Sliced). x.1) done)
greatest_le t [] = rw (greatest_none t) (omega arith)
greatest_le t (x ∷ done) = rw (greatest_cons t x done) (go (t x.0) (greatest_le t done))
  where
    go : (b : Bool) → greatest_of t done ≤ greatest (map (λ (e : Sliced). e.1) done) → max (if b then x.1 else 0) (greatest_of t done) ≤ max x.1 (greatest (map (λ (e : Sliced). e.1) done))
    go true le = omega arith
    go false le = omega arith

-- an entry that passes has no greater slice
pub greatest_ge : (t : Entry → Bool) (done : List Sliced) (i : ℕ) (e : Entry) (n : ℕ) → slice_get done i ≡ Some (e, n) → t e ≡ true → n ≤ greatest_of t done
greatest_ge t [] i e n at passes = cc
greatest_ge t (x ∷ done) zero e n at passes =
    let here : x ≡ (e, n) = cc at in
    rw (greatest_cons t x done, here, passes) (omega arith)
greatest_ge t (x ∷ done) (suc i) e n at passes = rw (greatest_cons t x done) (omega (arith, greatest_ge t done i e n at passes))

-- of two tests
pub greatest_or : (t u : Entry → Bool) (done : List Sliced) → greatest_of (λ e. t e || u e) done ≡ max (greatest_of t done) (greatest_of u done)
greatest_or t u [] = rw (greatest_none (λ e. t e || u e), greatest_none t, greatest_none u) refl
greatest_or t u (x ∷ done) =
    rw (greatest_cons (λ e. t e || u e) x done, greatest_cons t x done, greatest_cons u x done, greatest_or t u done) (go (t x.0) (u x.0) (greatest_of t done) (greatest_of u done))
  where
    go : (a b : Bool) (m n : ℕ) → max (if a || b then x.1 else 0) (max m n) ≡ max (max (if a then x.1 else 0) m) (max (if b then x.1 else 0) n)
    go true true m n = omega arith
    go true false m n = omega arith
    go false true m n = omega arith
    go false false m n = omega arith

pub greatest_never : (done : List Sliced) → greatest_of (λ e. false) done ≡ 0
greatest_never [] = greatest_none (λ e. false)
greatest_never (x ∷ done) = rw (greatest_cons (λ e. false) x done, greatest_never done) refl

pub greatest_and : (b : Bool) (t : Entry → Bool) (done : List Sliced) → greatest_of (λ e. b && t e) done ≡ (if b then greatest_of t done else 0)
greatest_and true t done = refl
greatest_and false t done = greatest_never done

-- of a test for each number of a list, where these pass
pub greatest_any : (mine : ℕ → Bool) (t : ℕ → Entry → Bool) (cs : List ℕ) (done : List Sliced)
    → greatest_of (λ e. any_of (λ c. mine c && t c e) cs) done ≡ greatest (map (λ c. if mine c then greatest_of (t c) done else 0) cs)
greatest_any mine t [] done = greatest_never done
greatest_any mine t (c ∷ cs) done =
    greatest_or (λ e. mine c && t c e) (λ e. any_of (λ c. mine c && t c e) cs) done
    ∙ rw (greatest_and (mine c) (t c) done, greatest_any mine t cs done) refl

-- the greatest of a function's values
pub value_le : (F : ℕ → ℕ) (cs : List ℕ) (c : ℕ) → is_among cs c ≡ true → F c ≤ greatest (map F cs)
value_le F [] c e = absurd (true≢false (sym e))
value_le F (d ∷ cs) c e = elim (cases_Bool (d == c)) [
  | inl same ↦ let is : F d ≡ F c = ap F (eqb-true d c same) in omega arith
  | inr other ↦ omega (arith, value_le F cs c (ap (λ b. b || is_among cs c) (sym other) ∙ e))
]

pub values_le : (F : ℕ → ℕ) (r : ℕ) (cs : List ℕ) → ((c : ℕ) → is_among cs c ≡ true → F c ≤ r) → greatest (map F cs) ≤ r
values_le F r [] each = omega arith
values_le F r (c ∷ cs) each =
    omega (arith, each c (among_here cs c), values_le F r cs (λ d e. each d (rw e (or_true (c == d)))))

pub greatest_push : (ns : List ℕ) (i : ℕ) → i < length ns → greatest (take (i + 1) ns) ≡ max (get_or ns i 0) (greatest (take i ns))
greatest_push ns i inside = ap greatest (take_more ns i 0 inside) ∙ greatest-append (take i ns) (get_or ns i 0 ∷ []) ∙ omega arith
