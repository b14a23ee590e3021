-- A board as plain data: what it was made for, and its history.
use Rattle.std.specs.Prelude.{ℕ, ◌<◌, ◌^◌, List, [], ◌∷◌, ◌++◌, length}
use Rattle.source_model.specs.declared.Static.{Static}
use Rattle.patch_layout.specs.Grid.{Grid}
use Rattle.magic_pool.specs.Pooled.{Pooled}
use Rattle.board_core.specs.declared.Noted.{Noted}
use Rattle.board_core.specs.declared.Entry.{Entry}
use Rattle.board_core.specs.History.{History, entries}
use Rattle.board_core.specs.Legal.{BoardJob, Legal}
use Rattle.board_core.specs.Limits.{WithinLimits, AreFactories}
use Rattle.board_core.specs.Suits.{IsOpenFor, HaveLetters}

-- the job of these products and this layout, with the pool's failing runs
abbrev pub job_with : List Static → Grid → Pooled → BoardJob
job_with products grid pool = record { products = products; grid = grid; fails = pool.fails }

pub record Position : Type 0 where
  pub job : BoardJob
  pub history : List Noted

-- the board with another history
abbrev pub with_history : Position → List Noted → Position
with_history b log = record { job = b.job; history = log }

-- what happened, without who made it
abbrev pub past : Position → History
past b = entries b.history

abbrev pub note : ℕ → Entry → Noted
note by e = record { by = by; entry = e }

-- the board with one entry more
abbrev pub with_entry : Position → ℕ → Entry → Position
with_entry b by e = with_history b (b.history ++ note by e ∷ [])

-- the job is within the limits, its layout has factories in their ranges and is open for its products, and each product has a
-- letter other than I; the history is legal, and short
pub record IsLegal (b : Position) : Type 0 where
  pub limits : WithinLimits b.job
  pub factories : AreFactories b.job.grid
  pub open_for : IsOpenFor b.job.grid b.job.products
  pub letters : HaveLetters b.job.products
  pub legal : Legal b.job (past b)
  pub short : length b.history < 2 ^ 20
