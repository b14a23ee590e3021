-- What told texts bring: where all are accepted, and where one is refused.
use Rattle.std.specs.Prelude.{◌≡◌, ◌⊎◌, ℕ, ◌≤◌, List}
use Rattle.board_core.specs.declared.Noted.{Noted}
use Rattle.schedule_text.specs.Text.{Version}
use Rattle.job_read.specs.declared.Job.{Job}
use Rattle.job_read.specs.declared.fault.JobFault.TheVariants as job
use Rattle.job_read.specs.Reading.{Seen, Reading, IsNamed, IsTold}
use Rattle.job_read.specs.Stages.{CircuitRefused, LayoutRefused}
use Rattle.job_read.specs.Jobs as job_faults
use Rattle.job_read.specs.Jobs.{StandsForJob, TellsUpTo, TellsAll}
use Rattle.tool_words.specs.Commands.{Tool, serial, lower, layout, verify, slices, migrate, layers, least}
use Rattle.tool_top.specs.declared.fault.ToolFault.{ToolFault}
use Rattle.tool_top.specs.declared.fault.ToolFault.TheVariants as fault
use Rattle.fault_lines.specs.Sinks.{Writing, Said}
use Rattle.job_read.specs.Shelves.{Shelved, seen_on, job_on, OnCircuit, OnLayout, OnJob}
use Rattle.tool_top.specs.Schedules.{ScheduleStands, ScheduleLong, ScheduleBad}
use Rattle.tool_top.specs.Faults.{status_of, fault_line}

-- ---- accepted texts

-- the job's texts and the schedule's are told, and accepted
abbrev pub AcceptsSchedule : Shelved → List ℕ → List ℕ → List ℕ → List ℕ → Type 0
AcceptsSchedule r c l o s =
    (job : Job) × (v : Version) × (h : List Noted) × TellsAll (job_on r c l o) × StandsForJob (job_on r c l o) job × IsTold (seen_on r s) × ScheduleStands (seen_on r s) job v h

-- all texts that the command reads are told, and accepted
abbrev pub Accepts : Shelved → Tool → Type 0
Accepts r (serial c l o) = (job : Job) × TellsAll (job_on r c l o) × StandsForJob (job_on r c l o) job
Accepts r (lower c) = IsTold (seen_on r c) × OnCircuit r c (λ circuit. Unit {0})
Accepts r (layout c l) = IsTold (seen_on r c) × (IsNamed l → IsTold (seen_on r l)) × OnLayout r c l (λ grid. Unit {0})
Accepts r (verify c l o s) = AcceptsSchedule r c l o s
Accepts r (slices c l o s) = AcceptsSchedule r c l o s
Accepts r (migrate c l o s) = AcceptsSchedule r c l o s
Accepts r (layers c) = IsTold (seen_on r c) × OnCircuit r c (λ circuit. Unit {0})
Accepts r (least c l o) = (job : Job) × TellsAll (job_on r c l o) × StandsForJob (job_on r c l o) job

-- ---- refused texts

-- the circuit is told, and refused with this fault
abbrev pub RefusesCircuit : Seen → ToolFault → Type 0
RefusesCircuit s (fault.Job (job.Circuit f)) = IsTold s × CircuitRefused s f
RefusesCircuit s _ = ⊥

-- the circuit is, or it is accepted and the layout is told and refused
abbrev pub RefusesLayout : Shelved → List ℕ → List ℕ → ToolFault → Type 0
RefusesLayout r c l (fault.Job (job.Layout f)) = IsTold (seen_on r c) × (IsNamed l → IsTold (seen_on r l)) × OnCircuit r c (λ circuit. LayoutRefused l (seen_on r l) circuit f)
RefusesLayout r c l f = RefusesCircuit (seen_on r c) f

-- a text of a job is told and refused, and those before it are told and accepted
abbrev pub RefusesJob : Reading → ToolFault → Type 0
RefusesJob j (fault.Job f) = TellsUpTo j f × job_faults.Refuses j f
RefusesJob j _ = ⊥

-- a text of the job is, or they are accepted and the schedule is told, and too long or bad at this line
abbrev pub RefusesSchedule : Shelved → List ℕ → List ℕ → List ℕ → List ℕ → ToolFault → Type 0
RefusesSchedule r c l o s fault.ScheduleTooLong = TellsAll (job_on r c l o) × IsTold (seen_on r s) × OnJob r c l o (λ job. ScheduleLong (seen_on r s))
RefusesSchedule r c l o s (fault.ScheduleIllegal line) = TellsAll (job_on r c l o) × IsTold (seen_on r s) × OnJob r c l o (λ job. ScheduleBad (seen_on r s) job line)
RefusesSchedule r c l o s f = RefusesJob (job_on r c l o) f

-- a text that the command reads is told and refused with this fault, and all before it are told and accepted
abbrev pub Refuses : Shelved → Tool → ToolFault → Type 0
Refuses r (serial c l o) f = RefusesJob (job_on r c l o) f
Refuses r (lower c) f = RefusesCircuit (seen_on r c) f
Refuses r (layout c l) f = RefusesLayout r c l f
Refuses r (verify c l o s) f = RefusesSchedule r c l o s f
Refuses r (slices c l o s) f = RefusesSchedule r c l o s f
Refuses r (migrate c l o s) f = RefusesSchedule r c l o s f
Refuses r (layers c) f = RefusesCircuit (seen_on r c) f
Refuses r (least c l o) f = RefusesJob (job_on r c l o) f

-- the fault's status, and its line on `err`, or a status that the outside is the cause of: 7, 8 or 9
abbrev pub AnswersBy : Writing → Tool → ToolFault → ℕ → Type 0
AnswersBy e t f status = ((status ≡ status_of f) × Said e (fault_line t f)) ⊎ (7 ≤ status)
