-- What a pass keeps between two calls, and what all have together.
use Rattle.std.specs.Prelude.{◌≡◌, ℕ, List, [], ◌++◌, map}
use Rattle.atomic_table.specs.Seated.{TableId}
use Rattle.board_core.specs.Position.{Position}
use Rattle.grid_lock.specs.declared.view.View.{View}
use Rattle.grid_lock.specs.Views.{IsSound}
use Rattle.grid_lock.specs.inside.Views.{gone}
use Rattle.grid_lock.specs.inside.Plays.{Sat}
use Rattle.grid_lock.specs.inside.Hands.{IsIdle}
use Rattle.grid_lock.specs.Passes.{NamedGrid, Known}

abbrev pub named : TableId → Position → NamedGrid
named id opened = record { id = id; opened = opened }

-- a grid's table has two words, the turn and the length, and one slot
abbrev pub IsGridTable : TableId → Type 0
IsGridTable id = (id.words ≡ 2) × (id.slots ≡ 1)

-- a pass between two calls, with its number and the number of passes that it split off
pub record PassRests (m : Sat) (number made : ℕ) : Type 0 where
  pub idle : IsIdle m
  pub sound : IsSound m.0
  pub number_is : number ≡ m.0.number
  pub made_is : made ≡ m.0.made
  pub kept_is : m.0.kept ≡ []

-- pass 0 with the passes that were handed in
abbrev pub gathered : View → List Known → View
gathered v ps = record v { kept = v.kept ++ map (λ (p : Known). gone p.view) ps }
