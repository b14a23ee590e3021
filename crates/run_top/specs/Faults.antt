-- The status of each fault, and the line that tells of it.
use Rattle.std.specs.Prelude.{ℕ, List, []}
use Rattle.fault_lines.specs.Lines.{unwritten_line, memory_line}
use Rattle.board_write.specs.declared.fault.WriteFault.{WriteFault}
use Rattle.board_write.specs.declared.fault.WriteFault.TheVariants as write
use Rattle.job_read.specs.Statuses.{job_status, job_line}
use Rattle.tool_words.specs.Commands.{Run, run, bits, big, side}
use Rattle.run_top.specs.declared.fault.RunFault.{RunFault}
use Rattle.run_top.specs.declared.fault.RunFault.TheVariants as fault
use Rattle.run_top.specs.Sides.{circuit_at, outcomes_at}

-- a board that wasn't written
abbrev pub fault_of_write : WriteFault → RunFault
fault_of_write write.Memory = fault.Memory
fault_of_write write.Failed = fault.Unwritten

-- ---- the names of a command's texts; none where it reads no such text

-- of program i; `run` and `bits` have one program
abbrev pub circuit_name : Run → ℕ → List ℕ
circuit_name (run c l o k) i = c
circuit_name (bits c l o k) i = c
circuit_name (big n k) i = []
circuit_name (side l k names) i = circuit_at names i

abbrev pub layout_name : Run → List ℕ
layout_name (run c l o k) = l
layout_name (bits c l o k) = l
layout_name (big n k) = []
layout_name (side l k names) = l

abbrev pub outcomes_name : Run → ℕ → List ℕ
outcomes_name (run c l o k) i = o
outcomes_name (bits c l o k) i = o
outcomes_name (big n k) i = []
outcomes_name (side l k names) i = outcomes_at names i

-- ---- statuses and lines

abbrev pub status_of : RunFault → ℕ
status_of (fault.Job f) = job_status f
status_of (fault.Program i f) = job_status f
status_of fault.Unwritten = 8
status_of fault.Memory = 9

-- the line on `err`
abbrev pub fault_line : Run → RunFault → List ℕ
fault_line t (fault.Job f) = job_line (circuit_name t 0) (layout_name t) (outcomes_name t 0) f
fault_line t (fault.Program i f) = job_line (circuit_name t i) (layout_name t) (outcomes_name t i) f
fault_line t fault.Unwritten = unwritten_line
fault_line t fault.Memory = memory_line
