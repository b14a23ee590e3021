-- The rule of the grid's table. Word 0 is the turn, 0 where it is free and 1 where it is held. Word 1 is the length of the history. The slot has the board.
use Rattle.std.specs.Prelude.{◌≡◌, ◌≢◌, ◌⊎◌, ℕ, ◌+◌, ◌<◌, ◌≤◌, Bool, true, false, List, [], ◌∷◌, length}
use Rattle.std.specs.List.{All, Any}
use mathlib.Core.Option.{Option, some}
use lib.ListN.{get_elem?}
use Rattle.atomic_table.specs.Table.{State}
use Rattle.board_core.specs.declared.Noted.{Noted}
use Rattle.board_core.specs.Position.{Position, with_history, IsLegal}
use Rattle.grid_lock.specs.declared.view.View.{View}
use Rattle.grid_lock.specs.declared.view.Gone.{Gone}
use Rattle.grid_lock.specs.Views.{entries_by, Extends, IsSound}

abbrev pub weight : Bool → ℕ
weight true = 1
weight false = 0

-- how many views pass the test
abbrev pub tally : (View → Bool) → List View → ℕ
tally p [] = 0
tally p (v ∷ vs) = weight (p v) + tally p vs

-- what is kept of an ended pass still holds of the history
pub record Stands (log : List Noted) (made : ℕ) (g : Gone) : Type 0 where
  pub given : g.number ≤ made
  pub begins : Extends log g.seen
  pub mine : entries_by g.number log ≡ g.mine
  pub read : g.read ≤ length log

-- pass j, which has not ended
pub record Lives (start : Position) (log : List Noted) (made : ℕ) (kept : List Gone) (j : ℕ) (v : View) : Type 0 where
  pub number : v.number ≡ j
  pub opened : v.opened ≡ start
  pub sound : IsSound v
  pub begins : Extends log v.seen
  pub mine : entries_by j log ≡ v.mine
  pub read : v.read ≤ length log
  pub current : v.holding ≡ true → v.seen ≡ log
  pub leads : j ≡ 0 → (v.made ≡ made) × (v.kept ≡ kept)
  pub alone : All (λ (g : Gone). g.number ≢ j) kept

-- pass j, which has ended
pub record HasEnded (kept : List Gone) (j : ℕ) (v : View) : Type 0 where
  pub idle : v.holding ≡ false
  pub other : j ≢ 0
  pub noted : Any (λ (g : Gone). g.number ≡ j) kept

abbrev pub LivesOrEnded : Position → List Noted → ℕ → List Gone → ℕ → View → Type 0
LivesOrEnded start log made kept j v = (v.ended ≡ false → Lives start log made kept j v) × (v.ended ≡ true → HasEnded kept j v)

-- P holds of some view
abbrev pub Somewhere : (View → Type 0) → List View → Type 0
Somewhere P vs = (j : ℕ) × (v : View) × (get_elem? vs j ≡ some v) × P v

-- There is one legal history, which the views begin. It is that of the board, where the turn is free
pub record KeepsRule (start : Position) (s : State Position View) : Type 0 where
  pub turn : ℕ
  pub log : List Noted
  pub made : ℕ
  pub kept : List Gone
  pub home : Option Position
  pub words : s.words ≡ turn ∷ length log ∷ []
  pub slot : s.homes ≡ home ∷ []
  pub legal : IsLegal (with_history start log)
  pub free : turn ≡ 0 → home ≡ some (with_history start log)
  pub one : turn ≤ 1
  pub held : tally (λ v. v.holding) s.views ≡ turn
  pub each : (j : ℕ) (v : View) → get_elem? s.views j ≡ some v → LivesOrEnded start log made kept j v
  pub count : length s.views ≡ made + 1
  pub later : (n : ℕ) → made < n → entries_by n log ≡ []
  pub stand : All (Stands log made) kept
  pub ended : tally (λ v. v.ended) s.views ≡ length kept
  pub longest : Somewhere (λ v. v.seen ≡ log) s.views ⊎ Any (λ (g : Gone). g.seen ≡ log) kept
