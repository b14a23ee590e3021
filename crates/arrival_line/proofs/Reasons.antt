-- Why an arrival is a stray.
use Rattle.std.proofs.Common.{◌≡◌, ◌==◌, ◌&&◌, ◌||◌, ◌⊎◌, ◌↔◌, inl, inr, Bool, true, false, true≢false, not, List, [], ◌∷◌, ◌++◌, Option, sym, refl, ap, ◌∙◌, ⊎_elim}
use Rattle.std.specs.List.{list_any}
use Rattle.std.proofs.lemmas.Bool.{cases_Bool, eqb-true, eq-eqb, and_parts, and_from, and_cases, and_left, and_right, not-false, or_from, or_left, or_right}
use Rattle.std.proofs.lemmas.List.Folds.{list_any-append}
use Rattle.arrival_line.specs.declared.arrival.Arrival.{Arrival}
use Rattle.source_model.specs.declared.Kind.{Kind}
use Rattle.arrival_line.specs.Strays.{fits, serves, Serves}

-- the first that passes a test
abbrev First : (Arrival → Bool) → List Arrival → Type 0
First p xs = (before : List Arrival) × (b : Arrival) × (after : List Arrival) × (xs ≡ before ++ b ∷ after) × (p b ≡ true) × (list_any p before ≡ false)

first : (p : Arrival → Bool) (xs : List Arrival) → list_any p xs ≡ true → First p xs
first p [] h = absurd (true≢false (sym h))
first p (x ∷ xs) h = ⊎_elim
    (λ (t : p x ≡ true). ([], x, xs, refl, t, refl))
    (λ (f : p x ≡ false). let r = first p xs (ap (λ b. b || list_any p xs) (sym f) ∙ h) in (x ∷ r.0, r.1, r.2, ap (λ l. x ∷ l) r.3, r.4, or_from (p x) (list_any p r.0) f r.5))
    (cases_Bool (p x))

module _ (w : List (Option Kind)) where
  abbrev same : Arrival → Arrival → Bool
  same a c = (c.product == a.product) && fits w c

  has_reason : (before : List Arrival) (a : Arrival) → serves w before a ≡ false → (fits w a ≡ false) ⊎ ((b : Arrival) × Serves w before b × (b.product ≡ a.product))
  has_reason before a h = ⊎_elim (λ f. inl f)
      (λ n.
      let r = first (same a) before (not-false (list_any (same a) before) n) in
      let ps = and_parts (r.1.product == a.product) (fits w r.1) r.4 in
      let e : r.1.product ≡ a.product = eqb-true r.1.product a.product ps.0 in
      let none : list_any (same r.1) r.0 ≡ false = ap (λ p. list_any (λ (c : Arrival). (c.product == p) && fits w c) r.0) e ∙ r.5 in
      inr (r.1, (r.0, r.2, r.3, and_from (fits w r.1) (not (list_any (same r.1) r.0)) ps.1 (ap not none)), e))
      (and_cases (fits w a) (not (list_any (same a) before)) h)

  from_reason : (before : List Arrival) (a : Arrival) → (fits w a ≡ false) ⊎ ((b : Arrival) × Serves w before b × (b.product ≡ a.product)) → serves w before a ≡ false
  from_reason before a r = ⊎_elim (λ (f : fits w a ≡ false). and_left (fits w a) (not (list_any (same a) before)) f)
      (λ (x : (b : Arrival) × Serves w before b × (b.product ≡ a.product)).
      let s : Serves w before x.0 = x.1 in
      let fb : fits w x.0 ≡ true = (and_parts (fits w x.0) _ s.3).0 in
      let is : same a x.0 ≡ true = and_from (x.0.product == a.product) (fits w x.0) (eq-eqb x.0.product a.product x.2) fb in
      let any : list_any (same a) before ≡ true =
      ap (list_any (same a)) s.2 ∙ list_any-append (same a) s.0 (x.0 ∷ s.1)
      ∙ or_right (list_any (same a) s.0) (list_any (same a) (x.0 ∷ s.1)) (or_left (same a x.0) (list_any (same a) s.1) is) in
      and_right (fits w a) (not (list_any (same a) before)) (ap not any))
      r

  pub stray_exactly : (before : List Arrival) (a : Arrival) → (serves w before a ≡ false) ↔ ((fits w a ≡ false) ⊎ ((b : Arrival) × Serves w before b × (b.product ≡ a.product)))
  stray_exactly before a = (has_reason before a, from_reason before a)
