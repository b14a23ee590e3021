-- What holds of all hands at every moment, in plain words.
use Rattle.std.specs.Prelude.{◌≡◌, ◌≢◌, ℕ, ◌<◌, ◌≤◌, [], slice_index}
use Rattle.std.specs.List.{Contains}
use mathlib.Core.Option.{some}
use lib.ListN.{get_elem?}
use Rattle.atomic_table.specs.Table.{State}
use Rattle.number_share.specs.declared.view.View.{View}
use Rattle.number_share.specs.Lists.{times}

-- the seat j knows v
abbrev pub IsSeat : State (Unit {0}) View → ℕ → View → Type 0
IsSeat s j v = get_elem? s.views j ≡ some v

-- some seat drew n
abbrev pub IsDrawn : State (Unit {0}) View → ℕ → Type 0
IsDrawn s n = (j : ℕ) × (v : View) × IsSeat s j v × Contains v.drawn n

pub record Moment (numbers : ℕ) (s : State (Unit {0}) View) : Type 0 where
  -- no seat drew a number twice
  pub once : (j : ℕ) (v : View) (n : ℕ) → IsSeat s j v → times n v.drawn ≤ 1
  -- no number was drawn by two seats
  pub apart : (i j : ℕ) (v w : View) (n : ℕ) → IsSeat s i v → IsSeat s j w → Contains v.drawn n → Contains w.drawn n → i ≡ j
  -- the drawn numbers are the shared ones below the word
  pub drawn : (n : ℕ) → n < slice_index s.words 0 → n < numbers → IsDrawn s n
  pub below : (n : ℕ) → IsDrawn s n → (n < slice_index s.words 0) × (n < numbers)
  -- a seat read a number that isn't shared only where every shared number was drawn
  pub spent : (j : ℕ) (v : View) → IsSeat s j v → v.past ≢ [] → (n : ℕ) → n < numbers → IsDrawn s n
