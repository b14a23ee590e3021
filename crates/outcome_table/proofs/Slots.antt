-- What stands at the products, from one line to the next.
use Rattle.std.proofs.Common.{◌≡◌, ◌≢◌, ℕ, zero, suc, ◌<◌, List, [], ◌∷◌, ◌++◌, length, map, set, get_or, Option, Some, None, inl, inr, refl, sym, ◌∙◌, ap, subst, arith, get_or-set_other, get_or-set_same}
use Rattle.std.specs.List.{slice_get}
use Rattle.std.proofs.Math.ListN.{length-set}
use Rattle.std.proofs.lemmas.Bool.{cases_eq}
use Rattle.std.proofs.lemmas.Option.{slice_get_within, slice_get_read, get_or_from_slice_get}
use Rattle.std.proofs.lemmas.List.Elements.{Contains-append_left, Contains-push, Contains-push_cases}
use Rattle.source_model.specs.Circuits.{IsOutcomeOf, OutcomesOf}
use Rattle.source_model.specs.declared.Kind.{Kind}
use Rattle.source_model.specs.declared.Kind.TheVariants as kind
use Rattle.source_model.specs.declared.Given.{Given}
use Rattle.source_model.specs.declared.Given.TheVariants as given
use Rattle.outcome_table.specs.OutcomeText.{AreGiven, Asked, HasLine, Lacks, Line, outcome}
use Rattle.outcome_table.specs.inside.Drafts.{IsSlot, slot_at_first}
use Rattle.outcome_table.proofs.Tables.{settled_alike}

abbrev pub Slots : List Kind → List Line → List (Option Given) → Type 0
Slots kinds ls slots = (p : ℕ) (k : Kind) (o : Option Given) → slice_get kinds p ≡ Some k → slice_get slots p ≡ Some o → IsSlot ls p k o

some_same : {A : Type 0} (x y : A) (o : Option A) → o ≡ Some x → o ≡ Some y → x ≡ y
some_same x y o e f = let both : Some x ≡ Some y = sym e ∙ f in cc

-- ---- a line that isn't for a product leaves what stands there
stays : (ls : List Line) (line : Line) (p : ℕ) (k : Kind) (o : Option Given) → ((g : Given) → line ≡ outcome p g → ⊥) → IsSlot ls p k o → IsSlot (ls ++ line ∷ []) p k o
stays ls line p k None other h =
    (h.0, λ has. elim (Contains-push_cases ls line (outcome p has.0) has.1) [ inl c ↦ h.1 (has.0, c) | inr e ↦ other has.0 e ])
stays ls line p k (Some g) other h = (h.0, elim h.1 [ inl e ↦ inl e | inr c ↦ inr (Contains-append_left ls (line ∷ []) (outcome p g) c) ])

pub slots_stay : (kinds : List Kind) (ls : List Line) (slots : List (Option Given)) (line : Line) → ((p : ℕ) (g : Given) → line ≡ outcome p g → ⊥) → Slots kinds ls slots → Slots kinds (ls ++ line ∷ []) slots
slots_stay kinds ls slots line other h p k o e f = stays ls line p k o (other p) (h p k o e f)

-- ---- a line puts its outcome where nothing stood
put_here : (ls : List Line) (p q : ℕ) (k j : Kind) (g : Given) (o : Option Given) → p ≡ q → k ≡ j → Some g ≡ o → IsOutcomeOf k g → IsSlot (ls ++ outcome p g ∷ []) q j o
put_here ls p q k j g o e f i h =
    let P : ℕ → Type 0 = λ n. IsSlot (ls ++ outcome p g ∷ []) n j o in
    let Q : Kind → Type 0 = λ z. IsSlot (ls ++ outcome p g ∷ []) p z o in
    let R : Option Given → Type 0 = λ z. IsSlot (ls ++ outcome p g ∷ []) p k z in
    subst P e (subst Q f (subst R i (h, inr (Contains-push ls (outcome p g)))))

pub slots_put : (kinds : List Kind) (ls : List Line) (slots : List (Option Given)) (p : ℕ) (k : Kind) (g : Given) → p < length slots → slice_get kinds p ≡ Some k → IsOutcomeOf k g → Slots kinds ls slots → Slots kinds (ls ++ outcome p g ∷ []) (set slots p (Some g))
slots_put kinds ls slots p k g inside at_p fits h q j o e f = elim (cases_eq q p) [
  | inl same ↦
      let P : ℕ → Type 0 = λ n. slice_get kinds n ≡ Some j in
      let kind_is : k ≡ j = some_same k j (slice_get kinds p) at_p (subst P same e) in
      let Q : ℕ → Type 0 = λ n. slice_get (set slots p (Some g)) n ≡ Some o in
      let read : get_or (set slots p (Some g)) p o ≡ o = get_or_from_slice_get (set slots p (Some g)) p o o (subst Q same f) in
      put_here ls p q k j g o (sym same) kind_is (sym (get_or-set_same slots p (Some g) o inside) ∙ read) fits
  | inr apart ↦
      let long : length (set slots p (Some g)) ≡ length slots = length-set slots p (Some g) in
      let w : q < length (set slots p (Some g)) = slice_get_within (set slots p (Some g)) q o f in
      let read : get_or (set slots p (Some g)) q o ≡ o = get_or_from_slice_get (set slots p (Some g)) q o o f in
      let there : slice_get slots q ≡ Some o = slice_get_read slots (length slots) q o refl (omega arith) (sym read ∙ get_or-set_other slots p q (Some g) o apart) in
      stays ls (outcome p g) q j o (λ x same. apart (cc)) (h q j o e there)
]

-- ---- before any line
at_first : (k : Kind) (p : ℕ) → IsSlot [] p k (slot_at_first k)
at_first kind.Rotation p = (λ h. h, λ has. absurd (omega (arith, has.1.1)))
at_first (kind.Measure bit) p = (λ h. h, λ has. absurd (omega (arith, has.1.1)))
at_first (kind.Settle first size value) p = (tt, inl refl)

map_at : (kinds : List Kind) (p : ℕ) (k : Kind) (o : Option Given) → slice_get kinds p ≡ Some k → slice_get (map slot_at_first kinds) p ≡ Some o → slot_at_first k ≡ o
map_at [] p k o e f = absurd (cc)
map_at (j ∷ kinds) zero k o e f = let same : j ≡ k = cc in let there : slot_at_first j ≡ o = cc in cc
map_at (j ∷ kinds) (suc p) k o e f = map_at kinds p k o e f

pub slots_first : (kinds : List Kind) → Slots kinds [] (map slot_at_first kinds)
slots_first kinds p k o e f = let P : Option Given → Type 0 = IsSlot [] p k in subst P (map_at kinds p k o e f) (at_first k p)

-- ---- something stands at a product that isn't settled: it has a line
pub stands_has : (ls : List Line) (p : ℕ) (k : Kind) (o : Option Given) (g : Given) → IsOutcomeOf k g → g ≢ given.Settled → o ≢ None → IsSlot ls p k o → HasLine ls p
stands_has ls p k None g fits other some h = absurd (some refl)
stands_has ls p k (Some x) g fits other some h = elim h.1 [
  | inl e ↦ let P : Given → Type 0 = IsOutcomeOf k in absurd (other (settled_alike k g (subst P e h.0) fits))
  | inr c ↦ (x, c)
]

pub stands_none : (ls : List Line) (p : ℕ) (k : Kind) (o : Option Given) → o ≡ None → IsSlot ls p k o → HasLine ls p → ⊥
stands_none ls p k None e h = h.1
stands_none ls p k (Some x) e h = absurd (cc)

-- ---- the table of slots that are all filled
slot_of : (table : List Given) (p : ℕ) (g : Given) → slice_get table p ≡ Some g → slice_get (map (λ x. Some x) table) p ≡ Some (Some g)
slot_of [] p g e = absurd (cc)
slot_of (x ∷ table) zero g e = let same : x ≡ g = cc in cc
slot_of (x ∷ table) (suc p) g e = slot_of table p g e

outcomes_of : (ks : List Kind) (gs : List Given) → length gs ≡ length ks → ((p : ℕ) (k : Kind) (g : Given) → slice_get ks p ≡ Some k → slice_get gs p ≡ Some g → IsOutcomeOf k g) → OutcomesOf ks gs
outcomes_of [] [] long each = tt
outcomes_of [] (g ∷ gs) long each = absurd (omega arith)
outcomes_of (k ∷ ks) [] long each = absurd (omega arith)
outcomes_of (k ∷ ks) (g ∷ gs) long each = (each 0 k g refl refl, outcomes_of ks gs (omega arith) (λ p x y e f. each (suc p) x y e f))

length-some : (table : List Given) → length (map (λ x. Some x) table) ≡ length table
length-some [] = refl
length-some (g ∷ gs) = ap suc (length-some gs)

kind_at : (kinds : List Kind) (p : ℕ) → p < length kinds → (k : Kind) × (slice_get kinds p ≡ Some k)
kind_at [] p inside = absurd (omega arith)
kind_at (k ∷ kinds) zero inside = (k, refl)
kind_at (k ∷ kinds) (suc p) inside = kind_at kinds p (omega arith)

pub filled_kinds : (kinds : List Kind) (ls : List Line) (slots : List (Option Given)) (table : List Given) → length slots ≡ length kinds → Slots kinds ls slots → slots ≡ map (λ x. Some x) table → OutcomesOf kinds table
filled_kinds kinds ls slots table long h e =
    let P : List (Option Given) → Type 0 = Slots kinds ls in
    let k = subst P e h in
    outcomes_of kinds table (sym (length-some table) ∙ sym (ap length e) ∙ long) (λ p x g f i. (k p x (Some g) f (slot_of table p g i)).0)

pub filled_given : (kinds : List Kind) (ls : List Line) (slots : List (Option Given)) (table : List Given) → length slots ≡ length kinds → Slots kinds ls slots → slots ≡ map (λ x. Some x) table → AreGiven ls table
filled_given kinds ls slots table long h e p g f =
    let P : List (Option Given) → Type 0 = Slots kinds ls in
    let k = subst P e h in
    let same : length slots ≡ length table = ap length e ∙ length-some table in
    let w : p < length table = slice_get_within table p g f in
    let x = kind_at kinds p (omega arith) in
    (k p x.0 (Some g) x.1 (slot_of table p g f)).1

pub empty_lacks : (a : Asked) (ls : List Line) (slots : List (Option Given)) (p : ℕ) → length slots ≡ length a.kinds → Slots a.kinds ls slots → slice_get slots p ≡ Some None → Lacks a ls p
empty_lacks a ls slots p long h e =
    let w : p < length slots = slice_get_within slots p None e in
    let x = kind_at a.kinds p (omega arith) in
    let slot = h p x.0 None x.1 e in
    (x.0, x.1, slot.0, slot.1)

slot_at : (slots : List (Option Given)) (p : ℕ) → p < length slots → (o : Option Given) × (slice_get slots p ≡ Some o)
slot_at [] p inside = absurd (omega arith)
slot_at (o ∷ slots) zero inside = (o, refl)
slot_at (o ∷ slots) (suc p) inside = slot_at slots p (omega arith)

lacks_none : (ls : List Line) (p : ℕ) (k : Kind) (o : Option Given) → (IsOutcomeOf k given.Settled → ⊥) → (HasLine ls p → ⊥) → IsSlot ls p k o → o ≡ None
lacks_none ls p k None unsettled none h = refl
lacks_none ls p k (Some g) unsettled none h = elim h.1 [
  | inl e ↦ let P : Given → Type 0 = IsOutcomeOf k in absurd (unsettled (subst P e h.0))
  | inr c ↦ absurd (none (g, c))
]

pub lacks_empty : (a : Asked) (ls : List Line) (slots : List (Option Given)) (p : ℕ) → length slots ≡ length a.kinds → Slots a.kinds ls slots → Lacks a ls p → slice_get slots p ≡ Some None
lacks_empty a ls slots p long h (k, e, unsettled, none) =
    let w : p < length a.kinds = slice_get_within a.kinds p k e in
    let x = slot_at slots p (omega arith) in
    x.1 ∙ ap Some (lacks_none ls p k x.0 unsettled none (h p k x.0 e x.1))
