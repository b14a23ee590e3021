-- A text has one answer.
use Rattle.std.proofs.Common.{◌≡◌, ◌⊎◌, ℕ, ◌+◌, List, [], ◌∷◌, ◌++◌, length, Contains, Some, inl, inr, refl, sym, ◌∙◌, ap, subst}
use Rattle.std.specs.List.{slice_get}
use Rattle.std.proofs.lemmas.Bool.{cases_order}
use Rattle.source_model.specs.Circuits.{IsOutcomeOf}
use Rattle.source_model.specs.declared.Given.{Given}
use Rattle.source_model.specs.declared.Given.TheVariants as given
use Rattle.magic_pool.specs.declared.Fail.{Fail}
use Rattle.outcome_table.specs.declared.fault.OutcomeFault.{OutcomeFault}
use Rattle.outcome_table.specs.declared.fault.OutcomeFault.TheVariants as fault
use Rattle.outcome_table.specs.OutcomeText.{AreRead, Asked, BreaksAt, IsMissing, IsRead, Lacks, Line, Refuses, StandsFor, fails_of, outcome}
use Rattle.outcome_table.proofs.Spelled.{cons_parts, read_once}
use Rattle.outcome_table.proofs.Breaking.{Stops, stops_once, read_stops}
use Rattle.outcome_table.proofs.Tables.{one_table, outcome_for}

same_body : (a : Asked) (text : List ℕ) (ls ms : List Line) → (h : IsRead a text ls) → (k : IsRead a text ms) → h.texts ≡ k.texts
same_body a text ls ms h k = (cons_parts _ _ h.texts k.texts (sym h.headed ∙ k.headed)).1

lines_once : (a : Asked) (text : List ℕ) (ls ms : List Line) → IsRead a text ls → IsRead a text ms → ls ≡ ms
lines_once a text ls ms h k =
    let P : List (List ℕ) → Type 0 = λ ts. AreRead ts ls in
    read_once k.texts ls ms (subst P (same_body a text ls ms h k) h.read) k.read

pub table_once : (a : Asked) (text : List ℕ) (t t' : List Given) (fs fs' : List Fail) → StandsFor a text t fs → StandsFor a text t' fs' → (t ≡ t') × (fs ≡ fs')
table_once a text t t' fs fs' h k =
    let same = lines_once a text h.ls k.ls h.read k.read in
    let P : List Line → Type 0 = λ ls. (p : ℕ) (g : Given) → slice_get t p ≡ Some g → (g ≡ given.Settled) ⊎ Contains ls (outcome p g) in
    (one_table a k.ls t t' k.read.kept h.kinds k.kinds (subst P same h.given) k.given, h.listed ∙ ap fails_of same ∙ sym k.listed)

stops_of : (a : Asked) (text : List ℕ) (f : OutcomeFault) (texts : List (List ℕ)) (h : BreaksAt a text f) → texts ≡ h.before ++ h.broken ∷ h.behind → Stops a [] 2 texts f
stops_of a text f texts h is = record {
  before = h.before;
  broken = h.broken;
  behind = h.behind;
  ls = h.ls;
  is = is;
  read = h.read;
  kept = h.kept;
  number = length h.before + 2;
  counted = refl;
  breaks = h.breaks;
}

read_breaks : (a : Asked) (text : List ℕ) (ls : List Line) (f : OutcomeFault) → IsRead a text ls → BreaksAt a text f → ⊥
read_breaks a text ls f h k =
    read_stops a [] 2 h.texts ls f h.read h.kept (stops_of a text f h.texts k (cons_parts _ _ h.texts (k.before ++ k.broken ∷ k.behind) (sym h.headed ∙ k.headed)).1)

stands_lacks : (a : Asked) (text : List ℕ) (t : List Given) (fs : List Fail) (ls : List Line) (n : ℕ) → StandsFor a text t fs → IsRead a text ls → Lacks a ls n → ⊥
stands_lacks a text t fs ls n h r (k, at', unsettled, none) = go (h.given n found.0 found.1)
  where
    found : (g : Given) × (slice_get t n ≡ Some g) × IsOutcomeOf k g
    found = outcome_for a.kinds t n k h.kinds at'

    go : (found.0 ≡ given.Settled) ⊎ Contains h.ls (outcome n found.0) → ⊥
    go (inl s) = let P : Given → Type 0 = IsOutcomeOf k in unsettled (subst P s found.2)
    go (inr c) =
        let P : List Line → Type 0 = λ xs. Contains xs (outcome n found.0) in
        none (found.0, subst P (lines_once a text h.ls ls h.read r) c)

pub stands_refuses : (a : Asked) (text : List ℕ) (t : List Given) (fs : List Fail) (f : OutcomeFault) → StandsFor a text t fs → Refuses a text f → ⊥
stands_refuses a text t fs f h (inl k) = k.1 h.short
stands_refuses a text t fs f h (inr (inl k)) = k.2 h.read.texts h.read.headed
stands_refuses a text t fs f h (inr (inr (inl k))) = read_breaks a text h.ls f h.read k.1
stands_refuses a text t fs f h (inr (inr (inr (n, e, k)))) = stands_lacks a text t fs k.ls n h k.read k.lacks

misses_once : (a : Asked) (text : List ℕ) (n m : ℕ) → IsMissing a text n → IsMissing a text m → n ≡ m
misses_once a text n m h k =
    let same = lines_once a text h.ls k.ls h.read k.read in
    let P : List Line → Type 0 = λ ls. Lacks a ls n in
    let Q : List Line → Type 0 = λ ls. Lacks a ls m in
    elim (cases_order n m) [
      | inl e ↦ e
      | inr o ↦ elim o [
        | inl below ↦ absurd (k.least n below (subst P same h.lacks))
        | inr above ↦ absurd (h.least m above (subst Q (sym same) k.lacks))
      ]
    ]

pub refused_once : (a : Asked) (text : List ℕ) (f f' : OutcomeFault) → Refuses a text f → Refuses a text f' → f ≡ f'
refused_once a text f f' (inl h) (inl k) = h.0 ∙ sym k.0
refused_once a text f f' (inl h) (inr (inl k)) = absurd (h.1 k.1)
refused_once a text f f' (inl h) (inr (inr (inl k))) = absurd (h.1 k.0)
refused_once a text f f' (inl h) (inr (inr (inr (m, e, k)))) = absurd (h.1 k.short)
refused_once a text f f' (inr (inl h)) (inl k) = absurd (k.1 h.1)
refused_once a text f f' (inr (inl h)) (inr (inl k)) = h.0 ∙ sym k.0
refused_once a text f f' (inr (inl h)) (inr (inr (inl k))) = absurd (h.2 (k.1.before ++ k.1.broken ∷ k.1.behind) k.1.headed)
refused_once a text f f' (inr (inl h)) (inr (inr (inr (m, e, k)))) = absurd (h.2 k.read.texts k.read.headed)
refused_once a text f f' (inr (inr (inl h))) (inl k) = absurd (k.1 h.0)
refused_once a text f f' (inr (inr (inl h))) (inr (inl k)) = absurd (k.2 (h.1.before ++ h.1.broken ∷ h.1.behind) h.1.headed)
refused_once a text f f' (inr (inr (inl h))) (inr (inr (inl k))) =
    let texts = h.1.before ++ h.1.broken ∷ h.1.behind in
    stops_once a [] 2 texts f f' (stops_of a text f texts h.1 refl) (stops_of a text f' texts k.1 (cons_parts _ _ texts (k.1.before ++ k.1.broken ∷ k.1.behind) (sym h.1.headed ∙ k.1.headed)).1)
refused_once a text f f' (inr (inr (inl h))) (inr (inr (inr (m, e, k)))) = absurd (read_breaks a text k.ls f k.read h.1)
refused_once a text f f' (inr (inr (inr (n, e, h)))) (inl k) = absurd (k.1 h.short)
refused_once a text f f' (inr (inr (inr (n, e, h)))) (inr (inl k)) = absurd (k.2 h.read.texts h.read.headed)
refused_once a text f f' (inr (inr (inr (n, e, h)))) (inr (inr (inl k))) = absurd (read_breaks a text h.ls f' h.read k.1)
refused_once a text f f' (inr (inr (inr (n, e, h)))) (inr (inr (inr (m, e', k)))) = e ∙ ap fault.Missing (misses_once a text n m h k) ∙ sym e'
