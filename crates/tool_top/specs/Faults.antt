-- The status of each fault, and the line that tells of it.
use Rattle.std.specs.Prelude.{ℕ, List, []}
use Rattle.fault_lines.specs.Lines.{read_line, long_schedule_line, bad_schedule_line, unwritten_line, memory_line}
use Rattle.board_write.specs.declared.fault.WriteFault.{WriteFault}
use Rattle.board_write.specs.declared.fault.WriteFault.TheVariants as write
use Rattle.job_read.specs.Statuses.{job_status, job_line}
use Rattle.tool_words.specs.Commands.{Tool, serial, lower, layout, verify, slices, migrate, layers, least}
use Rattle.tool_top.specs.declared.fault.ToolFault.{ToolFault}
use Rattle.tool_top.specs.declared.fault.ToolFault.TheVariants as fault

-- a board that wasn't written
abbrev pub fault_of_write : WriteFault → ToolFault
fault_of_write write.Memory = fault.Memory
fault_of_write write.Failed = fault.Unwritten

-- ---- the names of a command's texts; none where it reads no such text

abbrev pub circuit_name : Tool → List ℕ
circuit_name (serial c l o) = c
circuit_name (lower c) = c
circuit_name (layout c l) = c
circuit_name (verify c l o s) = c
circuit_name (slices c l o s) = c
circuit_name (migrate c l o s) = c
circuit_name (layers c) = c
circuit_name (least c l o) = c

abbrev pub layout_name : Tool → List ℕ
layout_name (serial c l o) = l
layout_name (lower c) = []
layout_name (layout c l) = l
layout_name (verify c l o s) = l
layout_name (slices c l o s) = l
layout_name (migrate c l o s) = l
layout_name (layers c) = []
layout_name (least c l o) = l

abbrev pub outcomes_name : Tool → List ℕ
outcomes_name (serial c l o) = o
outcomes_name (lower c) = []
outcomes_name (layout c l) = []
outcomes_name (verify c l o s) = o
outcomes_name (slices c l o s) = o
outcomes_name (migrate c l o s) = o
outcomes_name (layers c) = []
outcomes_name (least c l o) = o

abbrev pub schedule_name : Tool → List ℕ
schedule_name (serial c l o) = []
schedule_name (lower c) = []
schedule_name (layout c l) = []
schedule_name (verify c l o s) = s
schedule_name (slices c l o s) = s
schedule_name (migrate c l o s) = s
schedule_name (layers c) = []
schedule_name (least c l o) = []

-- ---- statuses and lines

abbrev pub status_of : ToolFault → ℕ
status_of (fault.Job f) = job_status f
status_of fault.ScheduleUnread = 7
status_of fault.ScheduleTooLong = 6
status_of (fault.ScheduleIllegal line) = 6
status_of fault.Unwritten = 8
status_of fault.Memory = 9

-- the line on `err`
abbrev pub fault_line : Tool → ToolFault → List ℕ
fault_line t (fault.Job f) = job_line (circuit_name t) (layout_name t) (outcomes_name t) f
fault_line t fault.ScheduleUnread = read_line (schedule_name t)
fault_line t fault.ScheduleTooLong = long_schedule_line
fault_line t (fault.ScheduleIllegal line) = bad_schedule_line line
fault_line t fault.Unwritten = unwritten_line
fault_line t fault.Memory = memory_line
