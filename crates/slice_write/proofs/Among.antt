-- Cells among others.
use Rattle.std.proofs.Common.{◌≡◌, ℕ, zero, suc, ◌<◌, Bool, true, false, ◌==◌, ◌||◌, List, [], ◌∷◌, ◌++◌, refl, ap, sym, ◌∙◌, arith, subst, inl, inr, eq-eqb, eqb-true}
use Rattle.std.specs.Prelude.{Contains, All}
use Rattle.std.proofs.lemmas.Bool.{true≢false, cases_Bool, eqb-false}
use Rattle.slice_write.specs.Slices.{is_among, upto}

pub or_true : (b : Bool) → (b || true) ≡ true
or_true true = refl
or_true false = refl

pub or_false : (b : Bool) → (b || false) ≡ b
or_false true = refl
or_false false = refl

pub or_assoc : (a b c : Bool) → (a || (b || c)) ≡ ((a || b) || c)
or_assoc true b c = refl
or_assoc false b c = refl

pub among_here : (cs : List ℕ) (c : ℕ) → is_among (c ∷ cs) c ≡ true
among_here cs c = rw (eq-eqb c c refl) refl

pub among_append : (cs ds : List ℕ) (c : ℕ) → is_among (cs ++ ds) c ≡ (is_among cs c || is_among ds c)
among_append [] ds c = refl
among_append (d ∷ cs) ds c = ap (λ b. d == c || b) (among_append cs ds c) ∙ or_assoc (d == c) (is_among cs c) (is_among ds c)

pub among_upto : (n c : ℕ) → c < n → is_among (upto n) c ≡ true
among_upto zero c low = absurd (omega arith)
among_upto (suc n) c low = elim (cases_Bool (n == c)) [
  | inl same ↦ among_append (upto n) (n ∷ []) c ∙ rw same (or_true (is_among (upto n) c))
  | inr other ↦
      let ne : n ≡ c → ⊥ = eqb-false n c other in
      let below : c < n = omega (arith, ne) in
      among_append (upto n) (n ∷ []) c ∙ rw (among_upto n c below) refl
]

pub upto_below : (n c : ℕ) → is_among (upto n) c ≡ true → c < n
upto_below zero c e = absurd (true≢false (sym e))
upto_below (suc n) c e = elim (cases_Bool (is_among (upto n) c)) [
  | inl before ↦ let below : c < n = upto_below n c before in omega arith
  | inr other ↦
      let same : (n == c) ≡ true = sym (or_false (n == c)) ∙ ap (λ b. b || (n == c || false)) (sym other) ∙ sym (among_append (upto n) (n ∷ []) c) ∙ e in
      let is : n ≡ c = eqb-true n c same in omega arith
]

pub among_all : (P : ℕ → Type 0) (cs : List ℕ) (c : ℕ) → All P cs → is_among cs c ≡ true → P c
among_all P [] c all e = absurd (true≢false (sym e))
among_all P (d ∷ cs) c all e = elim (cases_Bool (d == c)) [
  | inl same ↦ subst P (eqb-true d c same) (all 0 d (omega arith))
  | inr other ↦ among_all P cs c (λ k x h. all (suc k) x (omega arith)) (ap (λ b. b || is_among cs c) (sym other) ∙ e)
]

pub all_among : (P : ℕ → Type 0) (cs : List ℕ) → ((c : ℕ) → is_among cs c ≡ true → P c) → All P cs
all_among P [] each k d h = absurd (omega arith)
all_among P (c ∷ cs) each zero d h = each c (among_here cs c)
all_among P (c ∷ cs) each (suc k) d h = all_among P cs (λ e f. each e (rw f (or_true (c == e)))) k d (omega arith)

pub contains_among : (cs : List ℕ) (c : ℕ) → Contains cs c → is_among cs c ≡ true
contains_among [] c (k, inside, here) = absurd (omega arith)
contains_among (d ∷ cs) c (zero, inside, here) = rw (eq-eqb d c here) refl
contains_among (d ∷ cs) c (suc k, inside, here) = rw (contains_among cs c (k, omega arith, here)) (or_true (d == c))
