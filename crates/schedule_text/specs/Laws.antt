-- What holds of every schedule's text, and of every legal history that is written.
use Rattle.std.specs.Prelude.{◌≡◌, ℕ, List, All}
use Rattle.source_model.specs.Circuits.{IsOneLine, FirstsRunOn}
use Rattle.source_model.specs.declared.Item.{Item}
use Rattle.source_model.specs.declared.Given.{Given}
use Rattle.source_model.specs.declared.Register.{Register}
use Rattle.patch_layout.specs.Grid.{Grid, Sound}
use Rattle.magic_pool.specs.declared.Fail.{Fail}
use Rattle.board_core.specs.declared.Noted.{Noted}
use Rattle.board_core.specs.History.{entries}
use Rattle.board_core.specs.Legal.{BoardJob, Legal}
use Rattle.board_core.specs.Limits.{WithinLimits}
use Rattle.board_core.specs.Suits.{HaveLetters}
use Rattle.schedule_text.specs.Text.{two, HasNumber}
use Rattle.schedule_text.specs.Lines.{StandsIn}
use Rattle.schedule_text.specs.Written.{IsSchedule}

-- a text is the schedule of one history alone, whatever circuits with these registers, layouts and outcomes it is read against
abbrev pub OneSchedule : Type 0
OneSchedule =
    (registers : List Register) (text : List ℕ)
    (items others : List Item) (grid other : Grid) (fails fails2 : List Fail) (table table2 : List Given)
    → All (λ r. IsOneLine r.name) registers → FirstsRunOn 0 registers
    → (s : IsSchedule items registers grid fails table text) (t : IsSchedule others registers other fails2 table2 text)
    → s.history ≡ t.history

-- within the limits each entry of a legal history by workers 0 to 63 may stand in a text of version 2
abbrev pub LegalEntriesStand : Type 0
LegalEntriesStand = (j : BoardJob) (h : List Noted) →
    WithinLimits j → Sound j.grid → HaveLetters j.products → Legal j (entries h) → All HasNumber h → All (StandsIn two) h
