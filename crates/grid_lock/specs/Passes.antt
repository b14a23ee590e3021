-- Grids and passes as clauses see them.
use Rattle.std.specs.Prelude.{◌≡◌, ◌≢◌, false, ℕ, ◌≤◌, List, [], length}
use Rattle.std.specs.List.{All}
use Rattle.atomic_table.specs.Seated.{TableId}
use Rattle.board_core.specs.declared.Noted.{Noted}
use Rattle.board_core.specs.Position.{Position, with_history, IsLegal}
use Rattle.grid_lock.specs.declared.view.View.{View}
use Rattle.grid_lock.specs.Views.{entries_by, Extends}

-- which grid it is, and the board that it was opened with
pub record NamedGrid : Type 0 where
  pub id : TableId
  pub opened : Position

-- the grid that a pass is of, and what the pass knows
pub record Known : Type 0 where
  pub grid : TableId
  pub view : View

abbrev pub known : TableId → View → Known
known grid view = record { grid = grid; view = view }

-- the pass belongs to the grid
abbrev pub IsPassOf : NamedGrid → Known → Type 0
IsPassOf g p = (p.grid ≡ g.id) × (p.view.opened ≡ g.opened)

-- q is still the pass p: that of this grid with this number, which split off as many
abbrev pub IsSamePass : Known → Known → Type 0
IsSamePass p q =
    (q.grid ≡ p.grid) × (q.view.opened ≡ p.view.opened)
    × (q.view.number ≡ p.view.number) × (q.view.made ≡ p.view.made)

-- between two calls a pass doesn't hold the turn, what it has seen is legal, and its own entries there are its list
pub record IsCalm (p : Known) : Type 0 where
  pub idle : p.view.holding ≡ false
  pub legal : IsLegal (with_history p.view.opened p.view.seen)
  pub own : entries_by p.view.number p.view.seen ≡ p.view.mine

-- the history extends all that the pass has seen, has as many entries as it was told or more, and those under its number
-- are its own, each once
pub record StandsIn (log : List Noted) (v : View) : Type 0 where
  pub begins : Extends log v.seen
  pub mine : entries_by v.number log ≡ v.mine
  pub read : v.read ≤ length log

-- the board at the end: its history is legal, all passes stand in it, and no entry has another number
pub record Closes (g : NamedGrid) (first : Known) (others : List Known) (p : Position) : Type 0 where
  pub same : p ≡ with_history g.opened p.history
  pub legal : IsLegal p
  pub leads : StandsIn p.history first.view
  pub each : All (λ (o : Known). StandsIn p.history o.view) others
  pub no_other : (n : ℕ) → n ≢ 0 → All (λ (o : Known). o.view.number ≢ n) others →
      entries_by n p.history ≡ []
