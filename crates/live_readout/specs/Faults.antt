-- The status of each fault, and the line that tells of it.
use Rattle.std.specs.Prelude.{ℕ, List}
use Rattle.fault_lines.specs.Lines.{unwritten_line, memory_line}
use Rattle.board_write.specs.declared.fault.WriteFault.{WriteFault}
use Rattle.board_write.specs.declared.fault.WriteFault.TheVariants as write
use Rattle.job_read.specs.Statuses.{job_status, job_line}
use Rattle.live_readout.specs.Commands.{Command}
use Rattle.live_readout.specs.declared.fault.LiveFault.{LiveFault}
use Rattle.live_readout.specs.declared.fault.LiveFault.TheVariants as fault

-- a board that wasn't written
abbrev pub fault_of_write : WriteFault → LiveFault
fault_of_write write.Memory = fault.Memory
fault_of_write write.Failed = fault.Unwritten

abbrev pub status_of : LiveFault → ℕ
status_of (fault.Job f) = job_status f
status_of fault.Unwritten = 8
status_of fault.Memory = 9

-- the line on `err`
abbrev pub fault_line : Command → LiveFault → List ℕ
fault_line t (fault.Job f) = job_line t.circuit t.layout t.outcomes f
fault_line t fault.Unwritten = unwritten_line
fault_line t fault.Memory = memory_line
