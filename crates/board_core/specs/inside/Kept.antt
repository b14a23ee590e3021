-- What a board's fields keep: they are what its history makes of them.
use Rattle.std.specs.Prelude.{◌≡◌, ℕ, Bool, ◌<◌, List, length, Option}
use Rattle.pauli_product.specs.Signed.{Signed, OfLength}
use Rattle.frame_table.specs.Images.{Images, After}
use Rattle.patch_layout.specs.Grid.{Sound}
use Rattle.magic_pool.specs.Pooled.{Pooled, Recounts}
use Rattle.board_core.specs.declared.bits.Written.{Written}
use Rattle.board_core.specs.declared.board.Standing.{Standing}
use Rattle.board_core.specs.History.{History, steps, taken_states}
use Rattle.board_core.specs.Legal.{BoardJob, Legal}
use Rattle.board_core.specs.View.{turns_of}
use Rattle.board_core.specs.Limits.{WithinLimits}
use Rattle.board_core.specs.Suits.{IsOpenFor, HaveLetters}
use Rattle.board_core.specs.inside.Bits.{BitsAre}
use Rattle.board_core.specs.Books.{HoldersAre, HasMakersOf}
use Rattle.board_core.specs.inside.Books.{StandingsAre, BitsReach}
use Rattle.board_core.specs.Uses.{IsOrderOf}
use Rattle.board_core.specs.inside.Uses.{DoneAre}

-- the tables beside a history
pub record Tables : Type 0 where
  pub order : List (List Bool)
  pub frame : Images
  pub done : List Bool
  pub standings : List Standing
  pub holders : List (Option ℕ)
  pub bits : List Written
  pub pool : Pooled
  pub scratch : Signed

pub record Kept (j : BoardJob) (h : History) (t : Tables) : Type 0 where
  pub limits : WithinLimits j
  pub sound : Sound j.grid
  pub open_for : IsOpenFor j.grid j.products
  pub letters : HaveLetters j.products
  pub legal : Legal j h
  pub order : IsOrderOf j.products t.order
  pub frame : After limits.qubits (turns_of j.products h) t.frame
  pub done : DoneAre j h t.done
  pub standings : StandingsAre j h t.standings
  pub holders : HoldersAre j h t.holders
  pub bits : BitsAre j h t.bits
  pub reach : BitsReach j.products (length t.bits)
  pub fails : t.pool.fails ≡ j.fails
  pub pool : Recounts t.pool (steps h) (taken_states h)
  pub makers : HasMakersOf j.grid t.pool.makers
  pub scratch : OfLength limits.qubits t.scratch

-- the tables are those of some history in which p is a product
pub record HasProduct (t : Tables) (p : ℕ) : Type 0 where
  pub job : BoardJob
  pub past : History
  pub kept : Kept job past t
  pub within : p < length job.products
