-- From what a part of a command says to how the command ends.
use Rattle.std.proofs.Common.{◌≡◌, ℕ, List, Option, Result, Ok, Err, sym, subst}
use Rattle.std.specs.Prelude.{IsErrAnd}
use Rattle.fault_lines.specs.Sinks.{Writing, TookPart}
use Rattle.board_write.specs.declared.fault.WriteFault.{WriteFault}
use Rattle.board_write.specs.declared.fault.WriteFault.TheVariants as write
use Rattle.board_write.specs.Boards.{WritesText}
use Rattle.job_read.specs.declared.Job.{Job}
use Rattle.job_read.specs.Reading.{reading}
use Rattle.job_read.specs.Jobs.{StandsForJob}
use Rattle.job_read.specs.Shelves.{Shelved}
use Rattle.tool_words.specs.Commands.{Tool}
use Rattle.tool_top.specs.declared.fault.ToolFault.{ToolFault}
use Rattle.tool_top.specs.declared.fault.ToolFault.TheVariants as fault
use Rattle.tool_top.specs.Ends.{Ends, Outputs}
use Rattle.tool_top.specs.Faults.{fault_of_write}

-- what the command writes, and how far the output took it
abbrev pub Attempt : Shelved → Writing → Tool → Result (Unit {0}) WriteFault → Type 0
Attempt r w t did = (text : List ℕ) × Outputs r t text × WritesText w text did

by_write : (r : Shelved) (w : Writing) (t : Tool) (f : WriteFault) → Attempt r w t (Err f) → Ends r w t (Err (fault_of_write f))
by_write r w t write.Failed a = a
by_write r w t write.Memory a = (tt, a.2)

-- the output took a first part of what the command writes, or nothing for want of memory
pub stopped_ends : (r : Shelved) (w : Writing) (t : Tool) (f : WriteFault) (end : Result (Unit {0}) ToolFault) → IsErrAnd end (λ e. e ≡ fault_of_write f) → Attempt r w t (Err f) → Ends r w t end
stopped_ends r w t f (Ok done) is a = absurd is
stopped_ends r w t f (Err e) is a = subst (λ (x : ToolFault). Ends r w t (Err x)) (sym is) (by_write r w t f a)

-- the output failed on its way through the text
pub unwritten_ends : (r : Shelved) (w : Writing) (t : Tool) (text : List ℕ) (end : Result (Unit {0}) ToolFault) → IsErrAnd end (λ e. e ≡ fault.Unwritten) → Outputs r t text → TookPart w text → Ends r w t end
unwritten_ends r w t text end is o part = stopped_ends r w t write.Failed end is (text, o, part)

-- what was accepted while counts stood otherwise
pub stands_later : (tells : List ℕ → Option (List ℕ)) (before after after' : List ℕ → ℕ) (c l o : List ℕ) (j : Job) → StandsForJob (reading tells before after c l o) j → StandsForJob (reading tells before after' c l o) j
stands_later tells before after after' c l o j s = record { circuit = s.circuit; products = s.products; layout = s.layout; outcomes = s.outcomes }
