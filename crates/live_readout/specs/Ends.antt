-- How the command ends: what it writes, or why it writes nothing.
use Rattle.std.specs.Prelude.{◌≡◌, ◌⊎◌, ℕ, ◌≤◌, List, codes, Result, Ok, Err}
use Rattle.fault_lines.specs.Sinks.{Writing, Untouched, Took, TookPart, Said}
use Rattle.job_read.specs.declared.Job.{Job}
use Rattle.job_read.specs.Jobs as job_faults
use Rattle.job_read.specs.Jobs.{Because, StandsForJob, TellsUpTo, TellsAll}
use Rattle.job_read.specs.Reading.{Reading}
use Rattle.job_read.specs.Shelves.{Shelved, job_on, OnJob}
use Rattle.live_readout.specs.Commands.{Command, live_words, IsCommand}
use Rattle.live_readout.specs.Faults.{status_of, fault_line}
use Rattle.live_readout.specs.Carried.{IsLiveSchedule}
use Rattle.live_readout.specs.declared.fault.LiveFault.{LiveFault}
use Rattle.live_readout.specs.declared.fault.LiveFault.TheVariants as fault

-- the texts that a command reads
abbrev pub texts : Shelved → Command → Reading
texts r t = job_on r t.circuit t.layout t.outcomes

-- ---- what is written

-- the text is the schedule of the job that the told texts stand for
abbrev pub Outputs : Shelved → Command → List ℕ → Type 0
Outputs r t text = OnJob r t.circuit t.layout t.outcomes (λ job. IsLiveSchedule job text)

-- the words are those of the command, and the output took what it writes
abbrev pub Writes : List (List ℕ) → Shelved → Writing → Type 0
Writes words r w = (t : Command) × (text : List ℕ) × (words ≡ live_words t) × Outputs r t text × Took w text

-- ---- why nothing is written

-- the cause of each fault that comes before all writing; out of memory has none
abbrev pub Stops : Shelved → Command → LiveFault → Type 0
Stops r t (fault.Job f) = Because (texts r t) f
Stops r t fault.Unwritten = ⊥
Stops r t fault.Memory = Unit {0}

-- ---- how the command ends

-- the output took the whole text, or a first part of it and failed, or nothing
abbrev pub Ends : Shelved → Writing → Command → Result (Unit {0}) LiveFault → Type 0
Ends r w t (Ok done) = (text : List ℕ) × Outputs r t text × Took w text
Ends r w t (Err fault.Unwritten) = (text : List ℕ) × Outputs r t text × TookPart w text
Ends r w t (Err f) = Stops r t f × Untouched w

abbrev pub status_after : Result (Unit {0}) LiveFault → ℕ
status_after (Ok done) = 0
status_after (Err f) = status_of f

-- the line on `err`, and nothing where all was done
abbrev pub SaysWhy : Writing → Command → Result (Unit {0}) LiveFault → Type 0
SaysWhy e t (Ok done) = Untouched e
SaysWhy e t (Err f) = Said e (fault_line t f)

-- the words aren't those of the command: status 2, and nothing is written but the line
pub record RefusesWords (words : List (List ℕ)) (w e : Writing) (status : ℕ) : Type 0 where
  pub unlisted : (t : Command) → IsCommand t → words ≡ live_words t → ⊥
  pub ended : status ≡ 2
  pub silent : Untouched w
  pub said : Said e (codes "words\n")

-- they are, and it was carried out as far as its end
pub record CarriesOut (words : List (List ℕ)) (r : Shelved) (w e : Writing) (status : ℕ) : Type 0 where
  pub command : Command
  pub fits : IsCommand command
  pub listed : words ≡ live_words command
  pub end : Result (Unit {0}) LiveFault
  pub ends : Ends r w command end
  pub ended : status ≡ status_after end
  pub said : SaysWhy e command end

-- ---- told texts

-- all texts are told, and accepted
abbrev pub Accepts : Shelved → Command → Type 0
Accepts r t = (job : Job) × TellsAll (texts r t) × StandsForJob (texts r t) job

-- a text is told and refused with this fault, and those before it are told and accepted
abbrev pub Refuses : Shelved → Command → LiveFault → Type 0
Refuses r t (fault.Job f) = TellsUpTo (texts r t) f × job_faults.Refuses (texts r t) f
Refuses r t fault.Unwritten = ⊥
Refuses r t fault.Memory = ⊥

-- the fault's status, and its line on `err`, or a status that the outside is the cause of: 7, 8 or 9
abbrev pub AnswersBy : Writing → Command → LiveFault → ℕ → Type 0
AnswersBy e t f status = ((status ≡ status_of f) × Said e (fault_line t f)) ⊎ (7 ≤ status)
