-- What a draft keeps of the lines so far.
use Rattle.std.specs.Prelude.{◌≡◌, ◌⊎◌, ℕ, ◌+◌, ◌<◌, ◌≢◌, slice_get, List, [], ◌∷◌, ◌++◌, length, Contains, Option, Some, None}
use Rattle.std.specs.Ordering.{nat_cmp, ordering_then}
use Rattle.std.specs.BTreeSet.{contains}
use Rattle.patch_base.specs.Texts.{IsSkipped}
use Rattle.magic_pool.specs.Recount.{is_listed}
use Rattle.source_model.specs.Circuits.{IsOutcomeOf}
use Rattle.source_model.specs.declared.Kind.{Kind}
use Rattle.source_model.specs.declared.Kind.TheVariants as kind
use Rattle.source_model.specs.declared.Given.{Given}
use Rattle.source_model.specs.declared.Given.TheVariants as given
use Rattle.outcome_table.specs.declared.draft.Draft.{Draft}
use Rattle.outcome_table.specs.declared.fault.OutcomeFault.{OutcomeFault}
use Rattle.outcome_table.specs.declared.fault.OutcomeFault.TheVariants as fault
use Rattle.outcome_table.specs.declared.line.Line.{Line as LineRead}
use Rattle.outcome_table.specs.declared.line.Line.TheVariants as form
use Rattle.outcome_table.specs.OutcomeText.{AllKept, AreRead, Asked, BreaksText, HasLine, Kept, Line, Spells, failing, fails_of, outcome}

-- what a line that was read says
abbrev pub said : LineRead → Line
said (form.Outcome p g) = outcome p g
said (form.Failing f) = failing f

-- what stands at a product before any line
abbrev pub slot_at_first : Kind → Option Given
slot_at_first kind.Rotation = None
slot_at_first (kind.Measure bit) = None
slot_at_first (kind.Settle first size value) = Some given.Settled

-- what stands at a product of this kind after these lines
abbrev pub IsSlot : List Line → ℕ → Kind → Option Given → Type 0
IsSlot ls p k None = (IsOutcomeOf k given.Settled → ⊥) × (HasLine ls p → ⊥)
IsSlot ls p k (Some g) = IsOutcomeOf k g × ((g ≡ given.Settled) ⊎ Contains ls (outcome p g))

-- the draft is the one after these lines
pub record Holds (kinds : List Kind) (ls : List Line) (d : Draft) : Type 0 where
  pub sized : length d.table.items ≡ length kinds
  pub slots : (p : ℕ) (k : Kind) (o : Option Given) → slice_get kinds p ≡ Some k → slice_get d.table.items p ≡ Some o → IsSlot ls p k o
  pub fails : d.fails.items ≡ fails_of ls
  pub listed : (f run : ℕ) → contains (λ x y. ordering_then (nat_cmp x.0 y.0) (nat_cmp x.1 y.1)) d.listed (f, run) ≡ is_listed d.fails.items f run

-- the draft has taken a line of this text, after these lines
abbrev pub Takes : Asked → List Line → List ℕ → Draft → Type 0
Takes a ls text d =
    (IsSkipped text × Holds a.kinds ls d)
    ⊎ ((line : Line) × Spells text line × Kept a ls line × Holds a.kinds (ls ++ line ∷ []) d)

-- the first place where nothing stands
abbrev pub IsFirstEmpty : List (Option Given) → OutcomeFault → Type 0
IsFirstEmpty slots f = (n : ℕ) × (f ≡ fault.Missing n) × (slice_get slots n ≡ Some None) × ((p : ℕ) → p < n → slice_get slots p ≢ Some None)

-- the texts keep every rule, and the draft is the one after them
pub record IsBodyOf (a : Asked) (texts : List (List ℕ)) (d : Draft) : Type 0 where
  pub ls : List Line
  pub read : AreRead texts ls
  pub kept : AllKept a [] ls
  pub holds : Holds a.kinds ls d

-- a first one of the texts is refused
pub record BreaksBody (a : Asked) (texts : List (List ℕ)) (f : OutcomeFault) : Type 0 where
  pub before : List (List ℕ)
  pub broken : List ℕ
  pub behind : List (List ℕ)
  pub ls : List Line
  pub is : texts ≡ before ++ broken ∷ behind
  pub read : AreRead before ls
  pub kept : AllKept a [] ls
  pub breaks : BreaksText a ls (length before + 2) broken f
