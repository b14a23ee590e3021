-- Routers as clauses see them.
use Rattle.std.specs.Prelude.{◌≡◌, ℕ, ◌≤◌, List, length}
use Rattle.source_model.specs.declared.Given.{Given}
use Rattle.source_model.specs.Statics.{AreOutcomesOf}
use Rattle.patch_layout.specs.Grid.{HasStore}
use Rattle.grid_lock.specs.Passes.{Known, IsPassOf}
use Rattle.grid_lock.specs.Passes as grids
use Rattle.number_share.specs.Hands.{Owner}
use Rattle.number_share.specs.Hands as shares

-- the grid, the share and the outcomes that it works with, its pass and its hand, and how often its gate stopped it
pub record Routing : Type 0 where
  pub grid : grids.NamedGrid
  pub share : shares.NamedShare
  pub given : List Given
  pub pass : Known
  pub hand : Owner
  pub stops : ℕ

-- the pass is of the grid, the hand of the share, and the outcomes are of the board's products, one for each shared number
-- at least
pub record IsSetUp (r : Routing) : Type 0 where
  pub pass : IsPassOf r.grid r.pass
  pub hand : shares.IsHandOf r.share r.hand
  pub outcomes : AreOutcomesOf r.given r.grid.opened.job.products
  pub numbers : r.share.numbers ≤ length r.given

-- it works with the same grid, share and outcomes
pub record IsSameRouter (r s : Routing) : Type 0 where
  pub grid : s.grid ≡ r.grid
  pub share : s.share ≡ r.share
  pub given : s.given ≡ r.given

-- the grid that a maker works with, its pass, and the number of its factory
pub record Making : Type 0 where
  pub grid : grids.NamedGrid
  pub pass : Known
  pub factory : ℕ

-- the layout of the grid's board has the factory
abbrev pub HasFactory : grids.NamedGrid → ℕ → Type 0
HasFactory g f = (store : ℕ) × HasStore g.opened.job.grid f store
