-- How each command ends: what it writes, or why it writes nothing.
use Rattle.std.specs.Prelude.{◌≡◌, ◌⊎◌, ℕ, List, codes, Result, Ok, Err}
use Rattle.board_core.specs.declared.Noted.{Noted}
use Rattle.schedule_text.specs.Text.{Version}
use Rattle.job_read.specs.declared.Job.{Job}
use Rattle.job_read.specs.declared.fault.JobFault.{JobFault}
use Rattle.job_read.specs.Reading.{Seen, Failed}
use Rattle.job_read.specs.Jobs.{Because, CircuitStops, LayoutStops}
use Rattle.tool_words.specs.Commands.{Tool, serial, lower, layout, verify, slices, migrate, layers, least, tool_words}
use Rattle.tool_top.specs.declared.fault.ToolFault.{ToolFault}
use Rattle.tool_top.specs.declared.fault.ToolFault.TheVariants as fault
use Rattle.fault_lines.specs.Sinks.{Writing, Untouched, Took, TookPart, Said}
use Rattle.job_read.specs.Shelves.{Shelved, seen_on, job_on, OnCircuit, OnLayout, OnJob}
use Rattle.tool_top.specs.Serial.{IsSerialSchedule, IsLeastSchedule}
use Rattle.tool_top.specs.Lower.{shown}
use Rattle.rotation_list.specs.Listable.{lowered}
use Rattle.tool_top.specs.Layers.{AreLayersOf}
use Rattle.tool_top.specs.Schedules.{ScheduleStands, ScheduleLong, ScheduleBad, verdict, slices_shown, migrated}
use Rattle.tool_top.specs.Faults.{status_of, fault_line}

-- ---- what is read

-- the job and the schedule are accepted, and of them this holds
abbrev pub OnSchedule : Shelved → List ℕ → List ℕ → List ℕ → List ℕ → (Job → List Noted → Type 0) → Type 0
OnSchedule r c l o s P = OnJob r c l o (λ job. (v : Version) × (h : List Noted) × ScheduleStands (seen_on r s) job v h × P job h)

-- ---- what is written

-- the text is what the command writes
abbrev pub Outputs : Shelved → Tool → List ℕ → Type 0
Outputs r (serial c l o) text = OnJob r c l o (λ job. IsSerialSchedule job text)
Outputs r (lower c) text = OnCircuit r c (λ circuit. text ≡ lowered circuit)
Outputs r (layout c l) text = OnLayout r c l (λ grid. text ≡ shown grid)
Outputs r (verify c l o s) text = OnSchedule r c l o s (λ job h. text ≡ verdict)
Outputs r (slices c l o s) text = OnSchedule r c l o s (λ job h. text ≡ slices_shown job h)
Outputs r (migrate c l o s) text = OnSchedule r c l o s (λ job h. text ≡ migrated job h)
Outputs r (layers c) text = OnCircuit r c (λ circuit. AreLayersOf circuit text)
Outputs r (least c l o) text = OnJob r c l o (λ job. IsLeastSchedule job text)

-- ---- why nothing is written

-- the circuit, the layout or the outcomes can't be read, or are refused: the first one in this order
abbrev pub StopsAtJob : Shelved → Tool → JobFault → Type 0
StopsAtJob r (serial c l o) f = Because (job_on r c l o) f
StopsAtJob r (lower c) f = CircuitStops (seen_on r c) f
StopsAtJob r (layout c l) f = CircuitStops (seen_on r c) f ⊎ OnCircuit r c (λ circuit. LayoutStops l (seen_on r l) circuit f)
StopsAtJob r (verify c l o s) f = Because (job_on r c l o) f
StopsAtJob r (slices c l o s) f = Because (job_on r c l o) f
StopsAtJob r (migrate c l o s) f = Because (job_on r c l o) f
StopsAtJob r (layers c) f = CircuitStops (seen_on r c) f
StopsAtJob r (least c l o) f = Because (job_on r c l o) f

-- the job is accepted, and of the schedule's text this holds
abbrev pub StopsAtSchedule : Shelved → Tool → (Seen → Job → Type 0) → Type 0
StopsAtSchedule r (serial c l o) P = ⊥
StopsAtSchedule r (lower c) P = ⊥
StopsAtSchedule r (layout c l) P = ⊥
StopsAtSchedule r (verify c l o s) P = OnJob r c l o (P (seen_on r s))
StopsAtSchedule r (slices c l o s) P = OnJob r c l o (P (seen_on r s))
StopsAtSchedule r (migrate c l o s) P = OnJob r c l o (P (seen_on r s))
StopsAtSchedule r (layers c) P = ⊥
StopsAtSchedule r (least c l o) P = ⊥

-- the cause of each fault that comes before all writing; want of memory has none
abbrev pub Stops : Shelved → Tool → ToolFault → Type 0
Stops r t (fault.Job f) = StopsAtJob r t f
Stops r t fault.ScheduleUnread = StopsAtSchedule r t (λ s job. Failed s)
Stops r t fault.ScheduleTooLong = StopsAtSchedule r t (λ s job. ScheduleLong s)
Stops r t (fault.ScheduleIllegal line) = StopsAtSchedule r t (λ s job. ScheduleBad s job line)
Stops r t fault.Unwritten = ⊥
Stops r t fault.Memory = Unit {0}

-- ---- how a command ends

-- the output took the whole text, or a first part of it and failed, or nothing
abbrev pub Ends : Shelved → Writing → Tool → Result (Unit {0}) ToolFault → Type 0
Ends r w t (Ok done) = (text : List ℕ) × Outputs r t text × Took w text
Ends r w t (Err fault.Unwritten) = (text : List ℕ) × Outputs r t text × TookPart w text
Ends r w t (Err f) = Stops r t f × Untouched w

abbrev pub status_after : Result (Unit {0}) ToolFault → ℕ
status_after (Ok done) = 0
status_after (Err f) = status_of f

-- the line on `err`, and nothing where all was done
abbrev pub SaysWhy : Writing → Tool → Result (Unit {0}) ToolFault → Type 0
SaysWhy e t (Ok done) = Untouched e
SaysWhy e t (Err f) = Said e (fault_line t f)

-- the words aren't those of a command: status 2, and nothing is written but the line
pub record RefusesWords (words : List (List ℕ)) (w e : Writing) (status : ℕ) : Type 0 where
  pub unlisted : (t : Tool) → words ≡ tool_words t → ⊥
  pub ended : status ≡ 2
  pub silent : Untouched w
  pub said : Said e (codes "words\n")

-- the words are those of a command, which was carried out as far as its end
pub record CarriesOut (words : List (List ℕ)) (r : Shelved) (w e : Writing) (status : ℕ) : Type 0 where
  pub tool : Tool
  pub listed : words ≡ tool_words tool
  pub end : Result (Unit {0}) ToolFault
  pub ends : Ends r w tool end
  pub ended : status ≡ status_after end
  pub said : SaysWhy e tool end

-- the words are those of a command, and the output took what it writes
abbrev pub Writes : List (List ℕ) → Shelved → Writing → Type 0
Writes words r w = (t : Tool) × (text : List ℕ) × (words ≡ tool_words t) × Outputs r t text × Took w text
