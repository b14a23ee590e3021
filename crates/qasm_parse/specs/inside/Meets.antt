-- What was answered, against the rules that are broken.
use Rattle.std.specs.Prelude.{◌≡◌, ℕ, List, Option, Some, None, Result, Ok, Err}
use Rattle.qasm_lex.specs.declared.fault.FaultKind.TheVariants.{Unknown}
use Rattle.qasm_parse.specs.declared.stop.Stop.{Stop}
use Rattle.qasm_parse.specs.declared.stop.Fault.{Fault}
use Rattle.qasm_parse.specs.declared.stop.Fault.TheVariants.{Memory, Stopping}
use Rattle.qasm_parse.specs.declared.known.Called.{Called}
use Rattle.qasm_parse.specs.Faults.{first_fault}

-- the first broken rule was answered, or this value where there is none; out of memory says nothing
abbrev pub Meets : {X : Type 0} → Result X Fault → List (Option Stop) → X → Type 0
Meets (Ok x) faults y = (first_fault faults ≡ None) × (x ≡ y)
Meets (Err Memory) faults y = Unit {0}
Meets (Err (Stopping stop)) faults y = first_fault faults ≡ Some stop

-- the gate was answered, or that there is none
abbrev pub Finds : Result Called Fault → Option Called → ℕ → Type 0
Finds (Ok called) found name = found ≡ Some called
Finds (Err Memory) found name = ⊥
Finds (Err (Stopping stop)) found name = (found ≡ None) × (stop ≡ record { at = name; kind = Unknown })

-- this value was answered, unless memory ran out
abbrev pub IsOnly : {X : Type 0} → Result X Fault → X → Type 0
IsOnly (Ok x) y = x ≡ y
IsOnly (Err Memory) y = Unit {0}
IsOnly (Err (Stopping stop)) y = ⊥
