-- What is written of a board whose products are all done.
use Rattle.std.specs.Prelude.{ℕ, List, Result, Ok, Err}
use Rattle.source_model.specs.declared.Circuit.{Circuit}
use Rattle.source_model.specs.declared.Given.{Given}
use Rattle.source_model.specs.Circuits.{RightKinds}
use Rattle.source_model.specs.SourceRun.{bit_after}
use Rattle.board_core.specs.declared.Noted.{Noted}
use Rattle.board_core.specs.Legal.{Complete}
use Rattle.board_core.specs.Position.{Position, past}
use Rattle.schedule_text.specs.Text.{text_of, bits_text, two}
use Rattle.fault_lines.specs.Sinks.{Writing, Untouched, Took, TookPart}
use Rattle.board_write.specs.declared.fault.WriteFault.{WriteFault}
use Rattle.board_write.specs.declared.fault.WriteFault.TheVariants as fault

-- the board is the circuit's, and complete for the table
pub record IsComplete (c : Circuit) (b : Position) (table : List Given) : Type 0 where
  pub kinds : RightKinds c.items table
  pub complete : Complete b.job (past b) table

-- the schedule of a history, with the bits that the circuit's own run leaves with these outcomes
abbrev pub schedule_of : Circuit → List Given → List Noted → List ℕ
schedule_of c table h = text_of two h c.registers (bit_after c.items table)

-- those bits alone
abbrev pub bits_shown : Circuit → List Given → List ℕ
bits_shown c table = bits_text c.registers (bit_after c.items table)

-- the output took the text, or a first part of it and failed, or nothing for want of memory
abbrev pub WritesText : Writing → List ℕ → Result (Unit {0}) WriteFault → Type 0
WritesText w text (Ok done) = Took w text
WritesText w text (Err fault.Failed) = TookPart w text
WritesText w text (Err fault.Memory) = Untouched w
