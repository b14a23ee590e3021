-- Ends of a command that only its parts have.
use Rattle.std.specs.Prelude.{◌≡◌, ◌⊎◌, MatchResult, Result, Ok, Err}
use Rattle.job_read.specs.Jobs as job_faults
use Rattle.tool_top.specs.declared.fault.ToolFault.{ToolFault}
use Rattle.tool_top.specs.declared.fault.ToolFault.TheVariants as fault

-- the shelf or the output failed, or memory is wanting
abbrev pub IsOutside : ToolFault → Type 0
IsOutside (fault.Job f) = job_faults.IsOutside f
IsOutside fault.ScheduleUnread = Unit {0}
IsOutside fault.ScheduleTooLong = ⊥
IsOutside (fault.ScheduleIllegal line) = ⊥
IsOutside fault.Unwritten = Unit {0}
IsOutside fault.Memory = Unit {0}

-- all was done, or the outside is the cause that it wasn't
abbrev pub IsDone : Result (Unit {0}) ToolFault → Type 0
IsDone (Ok done) = Unit {0}
IsDone (Err f) = IsOutside f

-- it ended with this fault, or with one of the outside
abbrev pub EndsBy : {A : Type 0} → ToolFault → Result A ToolFault → Type 0
EndsBy f end = MatchResult end (λ a. ⊥) (λ e. (e ≡ f) ⊎ IsOutside e)
