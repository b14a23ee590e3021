-- Tables of a board: where products stand, and which bits they name; and what may be delivered.
use Rattle.std.specs.Prelude.{◌≡◌, ℕ, ◌+◌, ◌<◌, ◌≤◌, slice_get, List, length, Option, Some, None, IsSome}
use Rattle.source_model.specs.declared.Kind.{Kind}
use Rattle.source_model.specs.declared.Kind.TheVariants as kind
use Rattle.source_model.specs.declared.Static.{Static}
use Rattle.source_model.specs.declared.Given.{Given}
use Rattle.source_model.specs.declared.Given.TheVariants as given
use Rattle.source_model.specs.Circuits.{IsOutcomeOf}
use Rattle.magic_pool.specs.declared.Fail.{Fail}
use Rattle.magic_pool.specs.Recount.{ready_of, first_of_list}
use Rattle.board_core.specs.declared.board.Standing.{Standing}
use Rattle.board_core.specs.History.{History, claim_place, done_place}
use Rattle.board_core.specs.Legal.{BoardJob}
use Rattle.board_core.specs.View.{LeastWait}
use Rattle.board_core.specs.Books.{TakesRegion, standing_of}

-- the places of each product
abbrev pub StandingsAre : BoardJob → History → List Standing → Type 0
StandingsAre j h standings =
    (length standings ≡ length j.products) × ((p : ℕ) → p < length j.products → slice_get standings p ≡ Some (standing_of h p))

-- the bits that a product names are below n
abbrev pub NamesBelow : ℕ → Kind → Type 0
NamesBelow n kind.Rotation = Unit {0}
NamesBelow n (kind.Measure b) = b < n
NamesBelow n (kind.Settle first size value) = first + size ≤ n

abbrev pub BitsReach : List Static → ℕ → Type 0
BitsReach products n = (p : ℕ) (s : Static) → slice_get products p ≡ Some s → NamesBelow n s.kind

-- the state that a claim through this port takes
abbrev pub next_state : List Fail → List ℕ → List ℕ → Option ℕ → Option ℕ
next_state fails made taken None = None
next_state fails made taken (Some f) = first_of_list (ready_of fails made taken f)

-- the outcome may be delivered, or the product settled
pub record CanDeliver (j : BoardJob) (h : History) (p : ℕ) (s : Static) (g : Given) : Type 0 where
  pub product : slice_get j.products p ≡ Some s
  pub claimed : TakesRegion s.kind → IsSome (claim_place h p)
  pub undone : done_place h p ≡ None
  pub outcome : IsOutcomeOf s.kind g
  pub ready : g ≡ given.Settled → LeastWait j.products h p None
