-- The status that a program ends with where no job is read, and the line that tells of it.
use Rattle.std.specs.Prelude.{◌≡◌, ◌⊎◌, ℕ, ◌≤◌, ◌==◌, if◌then◌else◌, List}
use Rattle.qasm_lex.specs.declared.fault.CircuitFault.TheVariants as of_circuit
use Rattle.patch_layout.specs.declared.fault.LayoutFault.TheVariants as of_layout
use Rattle.outcome_table.specs.declared.fault.OutcomeFault.TheVariants as of_outcomes
use Rattle.fault_lines.specs.Lines.{circuit_line, layout_line, outcomes_line, read_line, memory_line}
use Rattle.job_read.specs.declared.fault.JobFault.{JobFault}
use Rattle.job_read.specs.declared.fault.JobFault.TheVariants as fault

abbrev pub job_status : JobFault → ℕ
job_status (fault.Read which) = 7
job_status (fault.Circuit of_circuit.Memory) = 9
job_status (fault.Circuit (of_circuit.At line kind)) = 3
job_status (fault.Layout of_layout.Memory) = 9
job_status (fault.Layout _) = 4
job_status (fault.Outcomes of_outcomes.Memory) = 9
job_status (fault.Outcomes _) = 5
job_status fault.Memory = 9

-- the name of the circuit, the layout or the outcomes, as a fault counts them from 0
abbrev pub name_of : List ℕ → List ℕ → List ℕ → ℕ → List ℕ
name_of circuit layout outcomes which = if which == 0 then circuit else if which == 1 then layout else outcomes

-- the line on `err`, by the names of the three texts
abbrev pub job_line : List ℕ → List ℕ → List ℕ → JobFault → List ℕ
job_line c l o (fault.Read which) = read_line (name_of c l o which)
job_line c l o (fault.Circuit f) = circuit_line f
job_line c l o (fault.Layout f) = layout_line f
job_line c l o (fault.Outcomes f) = outcomes_line f
job_line c l o fault.Memory = memory_line

-- 0, or a status that the outside is the cause of: 7, 8 or 9
abbrev pub IsDoneStatus : ℕ → Type 0
IsDoneStatus status = (status ≡ 0) ⊎ (7 ≤ status)
