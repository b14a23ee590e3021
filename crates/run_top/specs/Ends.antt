-- How each command ends: what it writes, or why it writes nothing.
use Rattle.std.specs.Prelude.{◌≡◌, ℕ, List, codes, Result, Ok, Err}
use Rattle.fault_lines.specs.Sinks.{Writing, Untouched, Took, TookPart, Said}
use Rattle.board_write.specs.Boards.{bits_shown}
use Rattle.job_read.specs.declared.fault.JobFault.{JobFault}
use Rattle.job_read.specs.Jobs.{Because}
use Rattle.job_read.specs.Made.{BigStops}
use Rattle.job_read.specs.Shelves.{Shelved, job_on, OnJob}
use Rattle.tool_words.specs.Commands.{Run, run, bits, big, side, run_words, IsRun}
use Rattle.run_top.specs.declared.fault.RunFault.{RunFault}
use Rattle.run_top.specs.declared.fault.RunFault.TheVariants as fault
use Rattle.run_top.specs.Faults.{status_of, fault_line}
use Rattle.run_top.specs.Carried.{IsRunSchedule}
use Rattle.run_top.specs.Big.{OnBig, summary}
use Rattle.run_top.specs.Sides.{Sides, StandForSides}
use Rattle.run_top.specs.SideFaults.{StopsAtSides}
use Rattle.run_top.specs.Alone.{IsSideSchedule}

-- ---- what is written

-- the text is what the command writes
abbrev pub Outputs : Shelved → Run → List ℕ → Type 0
Outputs r (run c l o k) text = OnJob r c l o (λ job. IsRunSchedule job text)
Outputs r (bits c l o k) text = OnJob r c l o (λ job. text ≡ bits_shown job.circuit job.outcomes.given)
Outputs r (big n k) text = OnBig n (λ job. text ≡ summary n job)
Outputs r (side l k names) text = (s : Sides) × StandForSides r l names s × IsSideSchedule s text

-- ---- why nothing is written

-- the circuit, the layout or the outcomes can't be read, or are refused: the first one in this order
abbrev pub StopsAtJob : Shelved → Run → JobFault → Type 0
StopsAtJob r (run c l o k) f = Because (job_on r c l o) f
StopsAtJob r (bits c l o k) f = Because (job_on r c l o) f
StopsAtJob r (big n k) f = BigStops n f
StopsAtJob r (side l k names) f = StopsAtSides r l names (fault.Job f)

-- a text of one of several programs can't be read, or is refused
abbrev pub StopsAtProgram : Shelved → Run → ℕ → JobFault → Type 0
StopsAtProgram r (side l k names) i f = StopsAtSides r l names (fault.Program i f)
StopsAtProgram r _ i f = ⊥

-- the cause of each fault that comes before all writing; out of memory has none
abbrev pub Stops : Shelved → Run → RunFault → Type 0
Stops r t (fault.Job f) = StopsAtJob r t f
Stops r t (fault.Program i f) = StopsAtProgram r t i f
Stops r t fault.Unwritten = ⊥
Stops r t fault.Memory = Unit {0}

-- ---- how a command ends

-- the output took the whole text, or a first part of it and failed, or nothing
abbrev pub Ends : Shelved → Writing → Run → Result (Unit {0}) RunFault → Type 0
Ends r w t (Ok done) = (text : List ℕ) × Outputs r t text × Took w text
Ends r w t (Err fault.Unwritten) = (text : List ℕ) × Outputs r t text × TookPart w text
Ends r w t (Err f) = Stops r t f × Untouched w

abbrev pub status_after : Result (Unit {0}) RunFault → ℕ
status_after (Ok done) = 0
status_after (Err f) = status_of f

-- the line on `err`, and nothing where all was done
abbrev pub SaysWhy : Writing → Run → Result (Unit {0}) RunFault → Type 0
SaysWhy e t (Ok done) = Untouched e
SaysWhy e t (Err f) = Said e (fault_line t f)

-- the words aren't those of a command: status 2, and nothing is written but the line
pub record RefusesWords (words : List (List ℕ)) (w e : Writing) (status : ℕ) : Type 0 where
  pub unlisted : (t : Run) → IsRun t → words ≡ run_words t → ⊥
  pub ended : status ≡ 2
  pub silent : Untouched w
  pub said : Said e (codes "words\n")

-- the words are those of a command, which was carried out as far as its end
pub record CarriesOut (words : List (List ℕ)) (r : Shelved) (w e : Writing) (status : ℕ) : Type 0 where
  pub command : Run
  pub ranged : IsRun command
  pub listed : words ≡ run_words command
  pub end : Result (Unit {0}) RunFault
  pub ends : Ends r w command end
  pub ended : status ≡ status_after end
  pub said : SaysWhy e command end

-- the words are those of a command, and the output took what it writes
abbrev pub Writes : List (List ℕ) → Shelved → Writing → Type 0
Writes words r w = (t : Run) × (text : List ℕ) × (words ≡ run_words t) × Outputs r t text × Took w text
