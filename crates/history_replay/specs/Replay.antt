-- Which texts are those of a legal complete history, and which line of any other text is the first bad one.
use Rattle.std.specs.Prelude.{◌≡◌, ◌⊎◌, ℕ, Bool, ◌+◌, ◌<◌, slice_get, List, [], ◌∷◌, ◌++◌, map, flat_map, take, length, All, Some}
use Rattle.source_model.specs.declared.Circuit.{Circuit}
use Rattle.source_model.specs.declared.Given.{Given}
use Rattle.source_model.specs.declared.Register.{Register}
use Rattle.source_model.specs.Circuits.{IsOneLine}
use Rattle.source_model.specs.SourceRun.{bit_after}
use Rattle.board_core.specs.declared.Noted.{Noted}
use Rattle.board_core.specs.declared.Entry.{Entry}
use Rattle.board_core.specs.declared.Entry.TheVariants.{Claim, Deliver, Release, Step, Settle}
use Rattle.board_core.specs.History.{entries}
use Rattle.board_core.specs.Legal.{BoardJob, Legal, Complete}
use Rattle.schedule_text.specs.Text.{Version, header_line, bits_line, text_of, ended}
use Rattle.schedule_text.specs.Lines.{IsEntryLine, StandsIn}

-- what a text is read against: a job, a table of outcomes, the registers, and the bits that the table leaves
pub record Question : Type 0 where
  pub job : BoardJob
  pub table : List Given
  pub registers : List Register
  pub bit : ℕ → Bool

-- a delivery has the table's outcome
abbrev pub Agrees : List Given → Entry → Type 0
Agrees table (Claim p axis port state cells) = Unit {0}
Agrees table (Deliver p g) = slice_get table p ≡ Some g
Agrees table (Release p) = Unit {0}
Agrees table (Step f) = Unit {0}
Agrees table (Settle p flip) = Unit {0}

-- each line is the entry line of its entry
abbrev pub AreEntryLines : Version → List (List ℕ) → List Noted → Type 0
AreEntryLines v [] [] = Unit {0}
AreEntryLines v [] (n ∷ h) = ⊥
AreEntryLines v (line ∷ lines) [] = ⊥
AreEntryLines v (line ∷ lines) (n ∷ h) = IsEntryLine v line n × AreEntryLines v lines h

-- the lines are a header, the entry lines of a history, and the lines of the first k registers' bits
abbrev pub Reads : Question → Version → List Noted → ℕ → List (List ℕ) → Type 0
Reads q v h k lines =
    (said : List (List ℕ)) × AreEntryLines v said h × (lines ≡ header_line v ∷ said ++ map (bits_line q.bit) (take k q.registers))

-- a header stands in the first line
abbrev pub BeginsText : List (List ℕ) → List ℕ → Type 0
BeginsText before line = (before ≡ []) × ((v : Version) × (line ≡ header_line v))

-- an entry line goes on with a legal history, before any bits
abbrev pub AddsEntry : Question → List (List ℕ) → List ℕ → Type 0
AddsEntry q before line =
    (v : Version) × (h : List Noted) × (n : Noted) × Reads q v h 0 before × IsEntryLine v line n
    × Legal q.job (entries (h ++ n ∷ [])) × Agrees q.table n.entry

-- the next register's bits come after a complete history
abbrev pub AddsBits : Question → List (List ℕ) → List ℕ → Type 0
AddsBits q before line =
    (v : Version) × (h : List Noted) × (k : ℕ) × (r : Register) × Reads q v h k before × Complete q.job (entries h) q.table
    × (slice_get q.registers k ≡ Some r) × (line ≡ bits_line q.bit r)

-- a line that may come after these lines
abbrev pub MayFollow : Question → List (List ℕ) → List ℕ → Type 0
MayFollow q before line = BeginsText before line ⊎ AddsEntry q before line ⊎ AddsBits q before line

-- the ended lines of a text, and the bytes after the last line feed
abbrev pub Splits : List ℕ → List (List ℕ) → List ℕ → Type 0
Splits text lines rest = (text ≡ flat_map ended lines ++ rest) × All IsOneLine lines × IsOneLine rest

-- the text is that of this history, which is legal and complete for the table
pub record IsTextOf (q : Question) (text : List ℕ) (v : Version) (h : List Noted) : Type 0 where
  pub stands : All (StandsIn v) h
  pub legal : Legal q.job (entries h)
  pub complete : Complete q.job (entries h) q.table
  pub are : text ≡ text_of v h q.registers q.bit

-- the text is that of some legal complete history
abbrev pub IsLegalText : Question → List ℕ → Type 0
IsLegalText q text = (v : Version) × (h : List Noted) × IsTextOf q text v h

-- each of the first n lines may follow those before it
abbrev pub GoodUpTo : Question → List (List ℕ) → ℕ → Type 0
GoodUpTo q lines n = (k : ℕ) (line : List ℕ) → k < n → slice_get lines k ≡ Some line → MayFollow q (take k lines) line

-- the first line that may not stand where it stands; where all may, but the text isn't legal, one more than the number of line feeds. Lines count from 1
abbrev pub FirstBadLine : Question → List ℕ → ℕ → Type 0
FirstBadLine q text n =
    (lines : List (List ℕ)) × (rest : List ℕ) × Splits text lines rest
    × (((k : ℕ) × (line : List ℕ) × (n ≡ k + 1) × (slice_get lines k ≡ Some line) × GoodUpTo q lines k × (MayFollow q (take k lines) line → ⊥))
    ⊎ ((n ≡ length lines + 1) × GoodUpTo q lines (length lines) × (IsLegalText q text → ⊥)))

-- no text has two first bad lines
abbrev pub OneFirstBad : Type 0
OneFirstBad = (q : Question) (text : List ℕ) (m n : ℕ) → FirstBadLine q text m → FirstBadLine q text n → m ≡ n

-- what a circuit asks of a text: the bits are those of its own run with the table
abbrev pub asked : Circuit → BoardJob → List Given → Question
asked c j table = record { job = j; table = table; registers = c.registers; bit = bit_after c.items table }

-- no text of a legal complete history has a bad line, where the table has an outcome for each product
abbrev pub LegalOrBad : Type 0
LegalOrBad =
    (q : Question) (text : List ℕ) (n : ℕ) → length q.table ≡ length q.job.products → All (λ r. IsOneLine r.name) q.registers → IsLegalText q text → FirstBadLine q text n → ⊥
