-- What told texts bring: where all are accepted, and where one is refused.
use Rattle.std.specs.Prelude.{◌≡◌, ◌⊎◌, ℕ, ◌≤◌, List}
use Rattle.fault_lines.specs.Sinks.{Writing, Said}
use Rattle.job_read.specs.declared.Job.{Job}
use Rattle.job_read.specs.Reading.{Reading}
use Rattle.job_read.specs.Jobs as job_faults
use Rattle.job_read.specs.Jobs.{StandsForJob, TellsUpTo, TellsAll}
use Rattle.job_read.specs.Shelves.{Shelved, job_on}
use Rattle.tool_words.specs.Commands.{Run, run, bits, big, side}
use Rattle.run_top.specs.declared.fault.RunFault.{RunFault}
use Rattle.run_top.specs.declared.fault.RunFault.TheVariants as fault
use Rattle.run_top.specs.Faults.{status_of, fault_line}
use Rattle.run_top.specs.Big.{OnBig}
use Rattle.run_top.specs.Sides.{Sides, StandForSides}
use Rattle.run_top.specs.SideFaults.{StopsAtSides, TellAllSides, TellSides}

-- the shelf or the output failed, or memory ran out
abbrev pub IsOutside : RunFault → Type 0
IsOutside (fault.Job f) = job_faults.IsOutside f
IsOutside (fault.Program i f) = job_faults.IsOutside f
IsOutside fault.Unwritten = Unit {0}
IsOutside fault.Memory = Unit {0}

-- ---- accepted texts

-- the job's texts are told, and accepted
abbrev pub AcceptsJob : Reading → Type 0
AcceptsJob j = (job : Job) × TellsAll j × StandsForJob j job

-- all texts that the command reads are told, and accepted
abbrev pub Accepts : Shelved → Run → Type 0
Accepts r (run c l o k) = AcceptsJob (job_on r c l o)
Accepts r (bits c l o k) = AcceptsJob (job_on r c l o)
Accepts r (big n k) = OnBig n (λ job. Unit {0})
Accepts r (side l k names) = (s : Sides) × TellAllSides r l names × StandForSides r l names s

-- ---- refused texts

-- a text of a job is told and refused, and those before it are told and accepted
abbrev pub RefusesJob : Reading → RunFault → Type 0
RefusesJob j (fault.Job f) = TellsUpTo j f × job_faults.Refuses j f
RefusesJob j _ = ⊥

-- a text of programs side by side, or their joined circuit
abbrev pub RefusesSides : Shelved → List ℕ → List (List ℕ) → RunFault → Type 0
RefusesSides r l names f = TellSides r l names f × StopsAtSides r l names f × (IsOutside f → ⊥)

-- a text that the command reads is told and refused with this fault, and all before it are told and accepted
abbrev pub Refuses : Shelved → Run → RunFault → Type 0
Refuses r (run c l o k) f = RefusesJob (job_on r c l o) f
Refuses r (bits c l o k) f = RefusesJob (job_on r c l o) f
Refuses r (big n k) f = ⊥
Refuses r (side l k names) f = RefusesSides r l names f

-- the fault's status, and its line on `err`, or a status that the outside is the cause of: 7, 8 or 9
abbrev pub AnswersBy : Writing → Run → RunFault → ℕ → Type 0
AnswersBy e t f status = ((status ≡ status_of f) × Said e (fault_line t f)) ⊎ (7 ≤ status)
