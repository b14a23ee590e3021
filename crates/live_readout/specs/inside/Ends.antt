-- Ends of a command that only its parts have.
use Rattle.std.specs.Prelude.{◌≡◌, ◌⊎◌, MatchResult, Result, Ok, Err}
use Rattle.job_read.specs.Jobs as job_faults
use Rattle.live_readout.specs.declared.fault.LiveFault.{LiveFault}
use Rattle.live_readout.specs.declared.fault.LiveFault.TheVariants as fault

-- the shelf or the output failed, or memory ran out
abbrev pub IsOutside : LiveFault → Type 0
IsOutside (fault.Job f) = job_faults.IsOutside f
IsOutside fault.Unwritten = Unit {0}
IsOutside fault.Memory = Unit {0}

-- all was done, or the outside is the cause that it wasn't
abbrev pub IsDone : Result (Unit {0}) LiveFault → Type 0
IsDone (Ok done) = Unit {0}
IsDone (Err f) = IsOutside f

-- it ended with this fault, or with one of the outside
abbrev pub EndsBy : {A : Type 0} → LiveFault → Result A LiveFault → Type 0
EndsBy f end = MatchResult end (λ a. ⊥) (λ e. (e ≡ f) ⊎ IsOutside e)
