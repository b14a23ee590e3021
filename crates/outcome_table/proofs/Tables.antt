-- Lines give one table.
use Rattle.std.proofs.Common.{◌≡◌, ◌⊎◌, ℕ, zero, suc, List, [], ◌∷◌, ◌++◌, length, Contains, Some, inl, inr, refl, sym, ◌∙◌, ap, subst, arith}
use Rattle.std.specs.List.{slice_get}
use Rattle.std.proofs.lemmas.List.Elements.{Contains-append_left, Contains-push}
use Rattle.source_model.specs.Circuits.{IsOutcomeOf, OutcomesOf}
use Rattle.source_model.specs.declared.Kind.{Kind}
use Rattle.source_model.specs.declared.Kind.TheVariants as kind
use Rattle.source_model.specs.declared.Given.{Given}
use Rattle.source_model.specs.declared.Given.TheVariants as given
use Rattle.outcome_table.specs.OutcomeText.{AllKept, AreGiven, Asked, HasLine, Kept, Line, outcome}
use Rattle.outcome_table.proofs.Spelled.{cons_cases}

-- the outcomes of a settled product are all alike
pub settled_alike : (k : Kind) (g : Given) → IsOutcomeOf k given.Settled → IsOutcomeOf k g → g ≡ given.Settled
settled_alike kind.Rotation g h k = absurd h
settled_alike (kind.Measure bit) g h k = absurd h
settled_alike (kind.Settle first size value) (given.Rotation raw x) h k = absurd k
settled_alike (kind.Settle first size value) (given.Measure raw) h k = absurd k
settled_alike (kind.Settle first size value) given.Settled h k = refl

-- ---- the kinds of a table
pub outcome_at : (ks : List Kind) (gs : List Given) (p : ℕ) (g : Given) → OutcomesOf ks gs → slice_get gs p ≡ Some g → (k : Kind) × (slice_get ks p ≡ Some k) × IsOutcomeOf k g
outcome_at [] [] p g h e = absurd (cc)
outcome_at [] (x ∷ gs) p g h e = absurd h
outcome_at (k ∷ ks) [] p g h e = absurd h
outcome_at (k ∷ ks) (x ∷ gs) zero g h e = let same : x ≡ g = cc in (k, refl, (let P : Given → Type 0 = IsOutcomeOf k in subst P same h.0))
outcome_at (k ∷ ks) (x ∷ gs) (suc p) g h e = outcome_at ks gs p g h.1 e

pub outcome_for : (ks : List Kind) (gs : List Given) (p : ℕ) (k : Kind) → OutcomesOf ks gs → slice_get ks p ≡ Some k → (g : Given) × (slice_get gs p ≡ Some g) × IsOutcomeOf k g
outcome_for [] [] p k h e = absurd (cc)
outcome_for [] (x ∷ gs) p k h e = absurd h
outcome_for (j ∷ ks) [] p k h e = absurd h
outcome_for (j ∷ ks) (x ∷ gs) zero k h e = let same : j ≡ k = cc in (x, refl, (let P : Kind → Type 0 = λ z. IsOutcomeOf z x in subst P same h.0))
outcome_for (j ∷ ks) (x ∷ gs) (suc p) k h e = outcome_for ks gs p k h.1 e

outcomes_length : (ks : List Kind) (gs : List Given) → OutcomesOf ks gs → length gs ≡ length ks
outcomes_length [] [] h = refl
outcomes_length [] (x ∷ gs) h = absurd h
outcomes_length (k ∷ ks) [] h = absurd h
outcomes_length (k ∷ ks) (x ∷ gs) h = ap suc (outcomes_length ks gs h.1)

-- ---- one line for each product
not_before : (a : Asked) (before ls : List Line) (p : ℕ) (g : Given) → AllKept a before ls → Contains ls (outcome p g) → HasLine before p → ⊥
not_before a before [] p g all c has = absurd (omega (arith, c.1))
not_before a before (line ∷ ls) p g all c has = elim (cons_cases line ls (outcome p g) c) [
  | inl e ↦ (let P : Line → Type 0 = Kept a before in (subst P e all.0).1 has)
  | inr d ↦ not_before a (before ++ line ∷ []) ls p g all.1 d (has.0, Contains-append_left before (line ∷ []) (outcome p has.0) has.1)
]

pushed : (before : List Line) (line : Line) (p : ℕ) (x : Given) → line ≡ outcome p x → HasLine (before ++ line ∷ []) p
pushed before line p x e = let P : Line → Type 0 = Contains (before ++ line ∷ []) in (x, subst P e (Contains-push before line))

-- no line behind this one is for its product
none_behind : (a : Asked) (before ls : List Line) (line : Line) (p : ℕ) (x y : Given) → AllKept a before (line ∷ ls) → line ≡ outcome p x → Contains ls (outcome p y) → ⊥
none_behind a before ls line p x y all e c = not_before a (before ++ line ∷ []) ls p y all.1 c (pushed before line p x e)

pub given_once : (a : Asked) (before ls : List Line) (p : ℕ) (g h : Given) → AllKept a before ls → Contains ls (outcome p g) → Contains ls (outcome p h) → g ≡ h
given_once a before [] p g h all c d = absurd (omega (arith, c.1))
given_once a before (line ∷ ls) p g h all c d =
    elim (cons_cases line ls (outcome p g) c) [
      | inl e ↦ elim (cons_cases line ls (outcome p h) d) [
        | inl f ↦ cc
        | inr l ↦ absurd (none_behind a before ls line p g h all e l)
      ]
      | inr k ↦ elim (cons_cases line ls (outcome p h) d) [
        | inl f ↦ absurd (none_behind a before ls line p h g all f k)
        | inr l ↦ given_once a (before ++ line ∷ []) ls p g h all.1 k l
      ]
    ]

-- ---- one table
same_lists : (xs ys : List Given) → length xs ≡ length ys → ((p : ℕ) (x y : Given) → slice_get xs p ≡ Some x → slice_get ys p ≡ Some y → x ≡ y) → xs ≡ ys
same_lists [] [] long each = refl
same_lists [] (y ∷ ys) long each = absurd (omega arith)
same_lists (x ∷ xs) [] long each = absurd (omega arith)
same_lists (x ∷ xs) (y ∷ ys) long each =
    let first : x ≡ y = each 0 x y refl refl in
    let rest : xs ≡ ys = same_lists xs ys (omega arith) (λ p u v e f. each (suc p) u v e f) in
    cc

pub one_table : (a : Asked) (ls : List Line) (t t' : List Given) → AllKept a [] ls → OutcomesOf a.kinds t → OutcomesOf a.kinds t' → AreGiven ls t → AreGiven ls t' → t ≡ t'
one_table a ls t t' all o o' h h' = same_lists t t' (outcomes_length a.kinds t o ∙ sym (outcomes_length a.kinds t' o')) each
  where
    other_settled : (p : ℕ) (x y : Given) → slice_get t p ≡ Some x → slice_get t' p ≡ Some y → x ≡ given.Settled → y ≡ given.Settled
    other_settled p x y e f s =
        let u = outcome_at a.kinds t p x o e in
        let v = outcome_at a.kinds t' p y o' f in
        let same : u.0 ≡ v.0 = (let both : Some u.0 ≡ Some v.0 = sym u.1 ∙ v.1 in cc) in
        let P : Given → Type 0 = IsOutcomeOf u.0 in
        let Q : Kind → Type 0 = λ k. IsOutcomeOf k y in
        settled_alike u.0 y (subst P s u.2) (subst Q (sym same) v.2)

    back_settled : (p : ℕ) (x y : Given) → slice_get t p ≡ Some x → slice_get t' p ≡ Some y → y ≡ given.Settled → x ≡ given.Settled
    back_settled p x y e f s =
        let u = outcome_at a.kinds t p x o e in
        let v = outcome_at a.kinds t' p y o' f in
        let same : u.0 ≡ v.0 = (let both : Some u.0 ≡ Some v.0 = sym u.1 ∙ v.1 in cc) in
        let P : Given → Type 0 = IsOutcomeOf v.0 in
        let Q : Kind → Type 0 = λ k. IsOutcomeOf k x in
        settled_alike v.0 x (subst P s v.2) (subst Q same u.2)

    joined : (p : ℕ) (x y : Given) → slice_get t p ≡ Some x → slice_get t' p ≡ Some y → (x ≡ given.Settled) ⊎ Contains ls (outcome p x) → (y ≡ given.Settled) ⊎ Contains ls (outcome p y) → x ≡ y
    joined p x y e f (inl s) k = s ∙ sym (other_settled p x y e f s)
    joined p x y e f (inr c) (inl s) = back_settled p x y e f s ∙ sym s
    joined p x y e f (inr c) (inr d) = given_once a [] ls p x y all c d

    each : (p : ℕ) (x y : Given) → slice_get t p ≡ Some x → slice_get t' p ≡ Some y → x ≡ y
    each p x y e f = joined p x y e f (h p x e) (h' p y f)
