-- Entries that join a board's history.
use Rattle.std.specs.Prelude.{◌≡◌, ◌⊎◌, ◌↔◌, ℕ, Bool, ◌+◌, ◌≤◌, List, ◌∷◌, ◌++◌, drop, flat_map, length, slice_get, is_some, All, Some, IsSome}
use Rattle.source_model.specs.declared.Given.{Given}
use Rattle.source_model.specs.declared.Kind.{Kind}
use Rattle.source_model.specs.declared.Kind.TheVariants as kind
use Rattle.source_model.specs.declared.Register.{Register}
use Rattle.source_model.specs.declared.Static.{Static}
use Rattle.patch_layout.specs.Grid.{Grid}
use Rattle.patch_layout.specs.declared.plan.Plan.{Plan}
use Rattle.patch_layout.specs.Certificate.{Certified}
use Rattle.patch_layout.specs.Case.{case_of, Ascending}
use Rattle.patch_layout.specs.Region.{Fit}
use Rattle.board_core.specs.declared.Noted.{Noted}
use Rattle.board_core.specs.History.{entries, claim_place, done_place, release_place}
use Rattle.board_core.specs.Legal.{BoardJob, Allowed, Legal, Complete}
use Rattle.board_core.specs.Position.{Position, past, with_entry}
use Rattle.schedule_text.specs.Text.{Version, ended, bits_text}
use Rattle.schedule_text.specs.Lines.{IsEntryLine}
use Rattle.history_replay.specs.declared.enter.Entered.{Entered}
use Rattle.history_replay.specs.declared.enter.Entered.TheVariants.{Bad, UpTo}
use Rattle.history_replay.specs.inside.Lines.{StopsAt}
use Rattle.history_replay.specs.Replay.{Agrees, AreEntryLines}

-- the check passes the plan's certificate exactly where its cells ascend and fit
abbrev pub CertifiedAs : Grid → Plan → Type 0
CertifiedAs g plan = Certified (case_of g (is_some plan.port) plan) ↔ (Ascending plan.cells × Fit g plan.axis plan.port plan.cells)

-- an entry is allowed after a history, and a delivery has the table's outcome
abbrev pub MayJoin : List Given → Position → Noted → Type 0
MayJoin table b n = Allowed b.job (past b) n.entry × Agrees table n.entry

-- the entry may join, and has
abbrev pub Joins : List Given → Position → Noted → Position → Type 0
Joins table b n now = MayJoin table b n × (now ≡ with_entry b n.by n.entry)

-- all deliveries have the table's outcomes
abbrev pub AgreeAll : List Given → List Noted → Type 0
AgreeAll table h = All (λ n. Agrees table n.entry) h

-- the product is done, and has given its region back
abbrev pub IsOver : Position → ℕ → Kind → Type 0
IsOver b p kind.Rotation = IsSome (claim_place (past b) p) × IsSome (done_place (past b) p) × IsSome (release_place (past b) p)
IsOver b p (kind.Measure bit) = IsSome (claim_place (past b) p) × IsSome (done_place (past b) p) × IsSome (release_place (past b) p)
IsOver b p (kind.Settle first size value) = IsSome (done_place (past b) p)

abbrev pub AllOver : Position → Type 0
AllOver b = (p : ℕ) (s : Static) → slice_get b.job.products p ≡ Some s → IsOver b p s.kind

-- an entry line comes next
abbrev pub BeginsEntry : Version → List ℕ → Noted → Type 0
BeginsEntry v text n = (line : List ℕ) × (rest : List ℕ) × (text ≡ line ++ 10 ∷ rest) × IsEntryLine v line n

-- a text begins with the entry lines of a legal history that agrees with the table, and then goes on
pub record Begins (j : BoardJob) (table : List Given) (v : Version) (text : List ℕ) (h : List Noted) (rest : List ℕ) : Type 0 where
  pub said : List (List ℕ)
  pub text_is : text ≡ flat_map ended said ++ rest
  pub lines : AreEntryLines v said h
  pub legal : Legal j (entries h)
  pub agree : AgreeAll table h

-- how far entry lines go from a place of a text on, on a new board
abbrev pub IsEntered : List Given → Version → List ℕ → ℕ → Position → Position → Entered → Type 0
IsEntered table v text start was now (Bad line) =
    (h : List Noted) × (n : Noted) × (rest : List ℕ) × Begins was.job table v (drop start text) h rest × BeginsEntry v rest n
    × (MayJoin table (record { job = was.job; history = h }) n → ⊥) × (line ≡ length h + 2)
IsEntered table v text start was now (UpTo at) =
    Begins was.job table v (drop start text) now.history (drop at text) × (now.job ≡ was.job) × (at ≤ length text)
    × ((n : Noted) → BeginsEntry v (drop at text) n → ⊥)

-- the lines of bits end the text, after a complete history
pub record Closes (table : List Given) (b : Position) (registers : List Register) (bit : ℕ → Bool) (text : List ℕ) : Type 0 where
  pub complete : Complete b.job (past b) table
  pub text_is : text ≡ bits_text registers bit

-- or they don't: the history isn't complete, or the lines of bits stop before the k-th register's, and the line has this number
abbrev pub Fails : List Given → Position → List Register → (ℕ → Bool) → List ℕ → ℕ → Type 0
Fails table b registers bit text line =
    ((Complete b.job (past b) table → ⊥) × (line ≡ length b.history + 2))
    ⊎ (Complete b.job (past b) table × ((k : ℕ) × StopsAt registers bit text k × (line ≡ length b.history + 2 + k)))
