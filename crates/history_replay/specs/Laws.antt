-- What holds of every schedule that is read back.
use Rattle.std.specs.Prelude.{ℕ, List}
use Rattle.source_model.specs.declared.Circuit.{Circuit}
use Rattle.source_model.specs.declared.Given.{Given}
use Rattle.patch_layout.specs.Grid.{Grid}
use Rattle.magic_pool.specs.declared.Fail.{Fail}
use Rattle.board_core.specs.Headline.{job_of}
use Rattle.schedule_text.specs.Text.{two}
use Rattle.schedule_text.specs.Written.{IsSchedule}
use Rattle.history_replay.specs.Replay.{IsTextOf, asked}

-- a schedule of a circuit is the text of its history, which is legal and complete for the table
abbrev pub SchedulesAreLegal : Type 0
SchedulesAreLegal =
    (c : Circuit) (grid : Grid) (fails : List Fail) (table : List Given) (text : List ℕ)
    → (s : IsSchedule c.items c.registers grid fails table text)
    → IsTextOf (asked c (job_of c.items grid fails) table) text two s.history
