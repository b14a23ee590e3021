-- Ends of a command that only its parts have.
use Rattle.std.specs.Prelude.{◌≡◌, ◌⊎◌, MatchResult, Result, Ok, Err}
use Rattle.run_top.specs.declared.fault.RunFault.{RunFault}
use Rattle.run_top.specs.Told.{IsOutside}

-- all was done, or the outside is the cause that it wasn't
abbrev pub IsDone : Result (Unit {0}) RunFault → Type 0
IsDone (Ok done) = Unit {0}
IsDone (Err f) = IsOutside f

-- it ended with this fault, or with one of the outside
abbrev pub EndsBy : {A : Type 0} → RunFault → Result A RunFault → Type 0
EndsBy f end = MatchResult end (λ a. ⊥) (λ e. (e ≡ f) ⊎ IsOutside e)
