-- What an outcome text stands for, and the first rule that another text breaks.
use Rattle.std.specs.Prelude.{◌≡◌, ◌≢◌, ◌⊎◌, ℕ, ◌+◌, ◌<◌, ◌≤◌, ◌^◌, slice_get, List, [], ◌∷◌, ◌++◌, length, codes, decimal, Contains, Some}
use Rattle.patch_base.specs.Texts.{lines, words, digit, IsSkipped}
use Rattle.source_model.specs.Circuits.{IsOutcomeOf, OutcomesOf}
use Rattle.source_model.specs.declared.Kind.{Kind}
use Rattle.source_model.specs.declared.Given.{Given}
use Rattle.source_model.specs.declared.Given.TheVariants as given
use Rattle.magic_pool.specs.declared.Fail.{Fail}
use Rattle.outcome_table.specs.declared.fault.OutcomeFault.{OutcomeFault}
use Rattle.outcome_table.specs.declared.fault.OutcomeFault.TheVariants as fault

-- ---- lines

-- a line gives the outcome of a product, or a failing run of a factory
pub data Line : Type 0 where
  outcome : ℕ → Given → Line
  failing : Fail → Line

-- the words of a line
abbrev pub spelling : Line → List (List ℕ)
spelling (outcome p (given.Rotation raw x)) = codes "r" ∷ decimal p ∷ digit raw ∷ digit x ∷ []
spelling (outcome p (given.Measure raw)) = codes "m" ∷ decimal p ∷ digit raw ∷ []
spelling (outcome p given.Settled) = []
spelling (failing f) = codes "f" ∷ decimal f.factory ∷ decimal f.run ∷ []

-- its numbers are below 2 ^ 32, and it isn't for a settled product
abbrev pub IsLine : Line → Type 0
IsLine (outcome p g) = (p < 2 ^ 32) × (g ≢ given.Settled)
IsLine (failing f) = (f.factory < 2 ^ 32) × (f.run < 2 ^ 32)

abbrev pub SpellsWords : List (List ℕ) → Line → Type 0
SpellsWords ws line = (ws ≡ spelling line) × IsLine line

-- the text of a line says this
abbrev pub Spells : List ℕ → Line → Type 0
Spells text line = SpellsWords (words text) line

-- the texts say these lines, but for those that are passed over
abbrev pub AreRead : List (List ℕ) → List Line → Type 0
AreRead [] ls = ls ≡ []
AreRead (text ∷ texts) ls =
    (IsSkipped text × AreRead texts ls)
    ⊎ ((line : Line) × (rest : List Line) × (ls ≡ line ∷ rest) × Spells text line × AreRead texts rest)

abbrev pub fails_of : List Line → List Fail
fails_of [] = []
fails_of (outcome p g ∷ ls) = fails_of ls
fails_of (failing f ∷ ls) = f ∷ fails_of ls

-- ---- rules

-- what the lines are read for: the kinds of the products, and the factories
pub record Asked : Type 0 where
  pub kinds : List Kind
  pub factories : List ℕ

-- there is such a product, and the outcome is one of its kind
abbrev pub IsFor : Asked → ℕ → Given → Type 0
IsFor a p g = (k : Kind) × (slice_get a.kinds p ≡ Some k) × IsOutcomeOf k g

-- some line is for this product
abbrev pub HasLine : List Line → ℕ → Type 0
HasLine ls p = (g : Given) × Contains ls (outcome p g)

-- after these lines a line keeps every rule
abbrev pub Kept : Asked → List Line → Line → Type 0
Kept a before (outcome p g) = IsFor a p g × (HasLine before p → ⊥)
Kept a before (failing f) = Contains a.factories f.factory × (Contains before (failing f) → ⊥) × (length (fails_of before) < 4096)

abbrev pub AllKept : Asked → List Line → List Line → Type 0
AllKept a before [] = Unit {0}
AllKept a before (line ∷ ls) = Kept a before line × AllKept a (before ++ line ∷ []) ls

-- the first rule that line number n breaks after these lines
abbrev pub Breaks : Asked → List Line → ℕ → Line → OutcomeFault → Type 0
Breaks a before n (outcome p g) f =
    ((f ≡ fault.Number n) × (length a.kinds ≤ p))
    ⊎ ((f ≡ fault.Kind n) × (p < length a.kinds) × (IsFor a p g → ⊥))
    ⊎ ((f ≡ fault.Repeated n) × IsFor a p g × HasLine before p)
Breaks a before n (failing x) f =
    ((f ≡ fault.Factory n) × (Contains a.factories x.factory → ⊥))
    ⊎ ((f ≡ fault.Repeated n) × Contains a.factories x.factory × Contains before (failing x))
    ⊎ ((f ≡ fault.TooManyFails) × Contains a.factories x.factory × (Contains before (failing x) → ⊥) × (4096 ≤ length (fails_of before)))

-- the text of line number n is refused after these lines: it has no form, or breaks a rule
abbrev pub BreaksText : Asked → List Line → ℕ → List ℕ → OutcomeFault → Type 0
BreaksText a before n text f =
    ((f ≡ fault.Form n) × (IsSkipped text → ⊥) × ((line : Line) → Spells text line → ⊥))
    ⊎ ((line : Line) × Spells text line × Breaks a before n line f)

-- ---- texts

-- at most 4 MiB
abbrev pub IsShort : List ℕ → Type 0
IsShort text = length text ≤ 4194304

-- the first line is `outcomes 1`, and the others are these
abbrev pub IsHeaded : List ℕ → List (List ℕ) → Type 0
IsHeaded text texts = lines text ≡ codes "outcomes 1" ∷ texts

-- each line after the first keeps every rule
pub record IsRead (a : Asked) (text : List ℕ) (ls : List Line) : Type 0 where
  pub texts : List (List ℕ)
  pub headed : IsHeaded text texts
  pub read : AreRead texts ls
  pub kept : AllKept a [] ls

-- each outcome has its line, but for those of settled products
abbrev pub AreGiven : List Line → List Given → Type 0
AreGiven ls table = (p : ℕ) (g : Given) → slice_get table p ≡ Some g → (g ≡ given.Settled) ⊎ Contains ls (outcome p g)

-- the text stands for this table and these failing runs
pub record StandsFor (a : Asked) (text : List ℕ) (table : List Given) (fails : List Fail) : Type 0 where
  pub short : IsShort text
  pub ls : List Line
  pub read : IsRead a text ls
  pub kinds : OutcomesOf a.kinds table
  pub given : AreGiven ls table
  pub listed : fails ≡ fails_of ls

-- the lines up to one keep every rule, and that one doesn't
pub record BreaksAt (a : Asked) (text : List ℕ) (f : OutcomeFault) : Type 0 where
  pub before : List (List ℕ)
  pub broken : List ℕ
  pub behind : List (List ℕ)
  pub ls : List Line
  pub headed : IsHeaded text (before ++ broken ∷ behind)
  pub read : AreRead before ls
  pub kept : AllKept a [] ls
  pub breaks : BreaksText a ls (length before + 2) broken f

-- the product isn't settled, and no line is for it
abbrev pub Lacks : Asked → List Line → ℕ → Type 0
Lacks a ls p = (k : Kind) × (slice_get a.kinds p ≡ Some k) × (IsOutcomeOf k given.Settled → ⊥) × (HasLine ls p → ⊥)

-- each line keeps every rule, and the product is the least that lacks one
pub record IsMissing (a : Asked) (text : List ℕ) (n : ℕ) : Type 0 where
  pub short : IsShort text
  pub ls : List Line
  pub read : IsRead a text ls
  pub lacks : Lacks a ls n
  pub least : (p : ℕ) → p < n → Lacks a ls p → ⊥

-- the text is refused with this fault
abbrev pub Refuses : Asked → List ℕ → OutcomeFault → Type 0
Refuses a text f =
    ((f ≡ fault.TooLong) × (IsShort text → ⊥))
    ⊎ ((f ≡ fault.Form 1) × IsShort text × ((texts : List (List ℕ)) → IsHeaded text texts → ⊥))
    ⊎ (IsShort text × BreaksAt a text f)
    ⊎ ((n : ℕ) × (f ≡ fault.Missing n) × IsMissing a text n)
