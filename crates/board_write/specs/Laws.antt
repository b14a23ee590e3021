-- What holds of every board that is written.
use Rattle.std.specs.Prelude.{◌≡◌, List, All}
use Rattle.source_model.specs.declared.Circuit.{Circuit}
use Rattle.source_model.specs.declared.Given.{Given}
use Rattle.source_model.specs.Circuits.{WellFormed}
use Rattle.patch_layout.specs.Grid.{Grid, Sound}
use Rattle.magic_pool.specs.declared.Fail.{Fail}
use Rattle.board_core.specs.Headline.{job_of}
use Rattle.board_core.specs.Position.{Position, IsLegal}
use Rattle.schedule_text.specs.Text.{HasNumber}
use Rattle.schedule_text.specs.Written.{IsSchedule}
use Rattle.board_write.specs.Boards.{IsComplete, schedule_of}

-- the text of a legal board of the circuit, made by workers 0 to 63 and complete for the table, is the schedule of its one history
abbrev pub CompleteBoardsAreSchedules : Type 0
CompleteBoardsAreSchedules =
    (c : Circuit) (grid : Grid) (fails : List Fail) (table : List Given) (b : Position)
    → WellFormed c → Sound grid → b.job ≡ job_of c.items grid fails
    → IsLegal b → All HasNumber b.history → IsComplete c b table
    → (s : IsSchedule c.items c.registers grid fails table (schedule_of c table b.history)) × (s.history ≡ b.history)
