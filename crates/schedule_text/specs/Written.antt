-- What the bytes of a written schedule promise.
use Rattle.std.specs.Prelude.{◌≡◌, ℕ, List, All}
use Rattle.source_model.specs.declared.Item.{Item}
use Rattle.source_model.specs.declared.Given.{Given}
use Rattle.source_model.specs.declared.Register.{Register}
use Rattle.source_model.specs.SourceRun.{bit_after}
use Rattle.patch_layout.specs.Grid.{Grid}
use Rattle.magic_pool.specs.declared.Fail.{Fail}
use Rattle.board_core.specs.declared.Noted.{Noted}
use Rattle.board_core.specs.Headline.{IsOneLegalHistory}
use Rattle.schedule_text.specs.Text.{text_of, two}
use Rattle.schedule_text.specs.Lines.{StandsIn}
use Rattle.board_core.specs.History.{entries}

-- the bytes are the text of one legal history, each entry of which may stand in a text of version 2, and their bits are the source's for these outcomes
pub record IsSchedule (items : List Item) (registers : List Register) (grid : Grid) (fails : List Fail) (table : List Given) (written : List ℕ) : Type 0 where
  pub history : List Noted
  pub stands : All (StandsIn two) history
  pub legal : IsOneLegalHistory items grid fails table (entries history)
  pub are : written ≡ text_of two history registers (bit_after items table)

-- one worker made all entries, the one of this number
abbrev pub AllBy : ℕ → List Noted → Type 0
AllBy worker h = All (λ n. n.by ≡ worker) h
