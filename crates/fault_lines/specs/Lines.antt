-- The lines that tell of faults.
use Rattle.std.specs.Prelude.{ℕ, List, [], ◌∷◌, ◌++◌, codes, decimal}
use Rattle.outcome_table.specs.declared.fault.OutcomeFault.{OutcomeFault}
use Rattle.outcome_table.specs.declared.fault.OutcomeFault.TheVariants as of_outcomes
use Rattle.patch_layout.specs.declared.fault.LayoutFault.{LayoutFault}
use Rattle.patch_layout.specs.declared.fault.LayoutFault.TheVariants as of_layout
use Rattle.patch_layout.specs.declared.layout.Edge.{Edge}
use Rattle.patch_layout.specs.declared.layout.Edge.TheVariants as edge
use Rattle.qasm_lex.specs.declared.fault.CircuitFault.{CircuitFault}
use Rattle.qasm_lex.specs.declared.fault.CircuitFault.TheVariants as of_circuit
use Rattle.qasm_lex.specs.declared.fault.FaultKind.{FaultKind}
use Rattle.qasm_lex.specs.declared.fault.FaultKind.TheVariants as kind
use Rattle.fault_lines.specs.declared.line.FaultLine.{FaultLine}
use Rattle.fault_lines.specs.declared.line.FaultLine.TheVariants as line

abbrev pub kind_word : FaultKind → List ℕ
kind_word kind.TooLong = codes "TooLong"
kind_word kind.Token = codes "Token"
kind_word kind.Syntax = codes "Syntax"
kind_word kind.Version = codes "Version"
kind_word kind.Unknown = codes "Unknown"
kind_word kind.Parameters = codes "Parameters"
kind_word kind.Declared = codes "Declared"
kind_word kind.Undeclared = codes "Undeclared"
kind_word kind.Index = codes "Index"
kind_word kind.Arity = codes "Arity"
kind_word kind.Sizes = codes "Sizes"
kind_word kind.SameQubit = codes "SameQubit"
kind_word kind.Unsupported = codes "Unsupported"
kind_word kind.TooMany = codes "TooMany"

abbrev pub edge_word : Edge → List ℕ
edge_word edge.X = codes "X"
edge_word edge.Z = codes "Z"

-- a line of two parts
abbrev pub plain : List ℕ → List ℕ → List ℕ
plain first second = first ++ second ++ codes "\n"

-- a line with a number in it
abbrev pub numbered : List ℕ → ℕ → List ℕ → List ℕ
numbered first n last = first ++ decimal n ++ last ++ codes "\n"

abbrev pub memory_line : List ℕ
memory_line = plain (codes "memory") []

abbrev pub circuit_line : CircuitFault → List ℕ
circuit_line (of_circuit.At line kind) = numbered (codes "circuit ") line (32 ∷ kind_word kind)
circuit_line of_circuit.Memory = memory_line

abbrev pub layout_line : LayoutFault → List ℕ
layout_line of_layout.TooLong = plain (codes "layout TooLong") []
layout_line (of_layout.Form line) = numbered (codes "layout Form ") line []
layout_line of_layout.Size = plain (codes "layout Size") []
layout_line (of_layout.Overlap cell) = numbered (codes "layout Overlap ") cell []
layout_line (of_layout.PatchMissing qubit) = numbered (codes "layout PatchMissing ") qubit []
layout_line (of_layout.Split cell) = numbered (codes "layout Split ") cell []
layout_line (of_layout.Shut qubit edge) = numbered (codes "layout Shut ") qubit (32 ∷ edge_word edge)
layout_line of_layout.NoPort = plain (codes "layout NoPort") []
layout_line (of_layout.ShutPort factory) = numbered (codes "layout ShutPort ") factory []
layout_line of_layout.Memory = memory_line

abbrev pub outcomes_line : OutcomeFault → List ℕ
outcomes_line of_outcomes.TooLong = plain (codes "outcomes TooLong") []
outcomes_line (of_outcomes.Form line) = numbered (codes "outcomes ") line (codes " Form")
outcomes_line (of_outcomes.Number line) = numbered (codes "outcomes ") line (codes " Number")
outcomes_line (of_outcomes.Kind line) = numbered (codes "outcomes ") line (codes " Kind")
outcomes_line (of_outcomes.Repeated line) = numbered (codes "outcomes ") line (codes " Repeated")
outcomes_line (of_outcomes.Factory line) = numbered (codes "outcomes ") line (codes " Factory")
outcomes_line of_outcomes.TooManyFails = plain (codes "outcomes TooManyFails") []
outcomes_line (of_outcomes.Missing number) = numbered (codes "outcomes Missing ") number []
outcomes_line of_outcomes.Memory = memory_line

-- the line of a text that can't be read
abbrev pub read_line : List ℕ → List ℕ
read_line name = plain (codes "read ") name

abbrev pub long_schedule_line : List ℕ
long_schedule_line = plain (codes "schedule TooLong") []

abbrev pub bad_schedule_line : ℕ → List ℕ
bad_schedule_line line = numbered (codes "schedule ") line []

abbrev pub unwritten_line : List ℕ
unwritten_line = plain (codes "write") []

abbrev pub words_line : List ℕ
words_line = codes "words\n"

abbrev pub line_text : FaultLine → List ℕ
line_text line.Words = words_line
line_text (line.Read name) = read_line name.now
line_text (line.Circuit f) = circuit_line f
line_text (line.Layout f) = layout_line f
line_text (line.Outcomes f) = outcomes_line f
line_text line.LongSchedule = long_schedule_line
line_text (line.BadSchedule number) = bad_schedule_line number
line_text line.Write = unwritten_line
line_text line.Memory = memory_line
