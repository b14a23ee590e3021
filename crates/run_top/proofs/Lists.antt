-- Lists that grow at their end, and pairs of lists.
use Rattle.std.proofs.Common.{◌≡◌, ℕ, zero, suc, ◌+◌, ◌<◌, List, [], ◌∷◌, ◌++◌, length, map, flat_map, slice_get, Some, All, refl, ap, sym, ◌∙◌, subst, arith}
use Rattle.std.proofs.lemmas.List.{length-append}
use Rattle.std.proofs.lemmas.List.Elements.{All-nil, All-cons, All-head, All-tail}
use Rattle.std.proofs.lemmas.Option.{same_Some, none-some}
use Rattle.source_model.specs.declared.Circuit.{Circuit}
use Rattle.source_model.specs.declared.Given.{Given}
use Rattle.source_model.specs.Circuits.{WellFormed, RightKinds}
use Rattle.outcome_table.specs.declared.Outcomes.{Outcomes}
use Rattle.side_by_side.specs.Programs.{IsProgram, circuits, joined_outcomes}
use Rattle.run_top.specs.Sides.{programs_of}

pub each_next : {A : Type 0} (P : ℕ → A → Type 0) (xs : List A) (x : A) → ((i : ℕ) (y : A) → slice_get xs i ≡ Some y → P i y) → P (length xs) x →
    (i : ℕ) (y : A) → slice_get (xs ++ x ∷ []) i ≡ Some y → P i y
each_next P [] x each last zero y at = subst (P 0) (same_Some x y at) last
each_next P [] x each last (suc i) y at = absurd (none-some y at)
each_next P (z ∷ zs) x each last zero y at = each 0 y at
each_next P (z ∷ zs) x each last (suc i) y at = each_next (λ k. P (suc k)) zs x (λ k w e. each (suc k) w e) last i y at

pub pairs_next : {A B : Type 0} (Q : ℕ → A → B → Type 0) (cs : List A) (os : List B) (o : B) (c : A) → slice_get cs (length os) ≡ Some c →
    ((i : ℕ) (x : A) (y : B) → slice_get cs i ≡ Some x → slice_get os i ≡ Some y → Q i x y) → Q (length os) c o →
    (i : ℕ) (x : A) (y : B) → slice_get cs i ≡ Some x → slice_get (os ++ o ∷ []) i ≡ Some y → Q i x y
pairs_next {A} Q cs os o c at each last i x y a b =
    each_next (λ k w. (z : A) → slice_get cs k ≡ Some z → Q k z w) os o (λ k w e z f. each k z w f e)
    (λ z f. subst (λ v. Q (length os) v o) (same_Some c z (sym at ∙ f)) last) i y b x a

pub one_more : {A : Type 0} (xs : List A) (x : A) (n : ℕ) → length xs ≡ n → length (xs ++ x ∷ []) ≡ n + 1
one_more xs x n e = omega (arith, e, length-append xs (x ∷ []))

pub get_within : {A : Type 0} (xs : List A) (i : ℕ) → i < length xs → (x : A) × (slice_get xs i ≡ Some x)
get_within [] i below = absurd (omega arith)
get_within (x ∷ xs) zero below = (x, refl)
get_within (x ∷ xs) (suc i) below = get_within xs i (omega arith)

-- ---- circuits with their outcomes
pub circuits_are : (cs : List Circuit) (os : List Outcomes) → length os ≡ length cs → circuits (programs_of cs os) ≡ cs
circuits_are [] os e = refl
circuits_are (c ∷ cs) [] e = absurd (omega arith)
circuits_are (c ∷ cs) (o ∷ os) e = ap (λ (xs : List Circuit). c ∷ xs) (circuits_are cs os (omega arith))

pub outcomes_are : (cs : List Circuit) (os : List Outcomes) → length os ≡ length cs → map (λ t. t.given) os ≡ map (λ p. p.outcomes) (programs_of cs os)
outcomes_are [] [] e = refl
outcomes_are [] (o ∷ os) e = absurd (omega arith)
outcomes_are (c ∷ cs) [] e = absurd (omega arith)
outcomes_are (c ∷ cs) (o ∷ os) e = ap (λ (xs : List (List Given)). o.given ∷ xs) (outcomes_are cs os (omega arith))

pub given_are : (cs : List Circuit) (os : List Outcomes) → length os ≡ length cs → joined_outcomes (programs_of cs os) ≡ flat_map (λ o. o.given) os
given_are [] [] e = refl
given_are [] (o ∷ os) e = absurd (omega arith)
given_are (c ∷ cs) [] e = absurd (omega arith)
given_are (c ∷ cs) (o ∷ os) e = ap (λ (xs : List Given). o.given ++ xs) (given_are cs os (omega arith))

pub all_programs : (cs : List Circuit) (os : List Outcomes) → All WellFormed cs →
    ((i : ℕ) (c : Circuit) (o : Outcomes) → slice_get cs i ≡ Some c → slice_get os i ≡ Some o → RightKinds c.items o.given) → All IsProgram (programs_of cs os)
all_programs [] os formed right = All-nil IsProgram
all_programs (c ∷ cs) [] formed right = All-nil IsProgram
all_programs (c ∷ cs) (o ∷ os) formed right =
    All-cons IsProgram _ _ (All-head WellFormed c cs formed, right 0 c o refl refl)
    (all_programs cs os (All-tail WellFormed c cs formed) (λ i x y a b. right (suc i) x y a b))
