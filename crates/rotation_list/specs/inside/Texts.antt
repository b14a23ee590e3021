-- What a program is refused with, or out of memory.
use Rattle.std.specs.Prelude.{ℕ, List}
use Rattle.qasm_lex.specs.declared.fault.CircuitFault.{CircuitFault}
use Rattle.qasm_lex.specs.declared.fault.CircuitFault.TheVariants as fault
use Rattle.rotation_list.specs.Texts.{IsFaulty}

-- what a program is refused with, or out of memory
abbrev pub FaultOf : List ℕ → CircuitFault → Type 0
FaultOf text fault.Memory = Unit {0}
FaultOf text (fault.At line kind) = IsFaulty text line kind
