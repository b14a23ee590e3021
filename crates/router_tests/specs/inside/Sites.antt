-- Grids that routers are tried on.
use Rattle.std.specs.Prelude.{◌≡◌, ℕ, ◌<◌, length, List}
use Rattle.std.specs.List.{Contains}
use Rattle.source_model.specs.declared.Given.{Given}
use Rattle.source_model.specs.Statics.{AreOutcomesOf}
use Rattle.patch_layout.specs.Grid.{Grid}
use Rattle.grid_lock.specs.Passes.{NamedGrid, Known, IsPassOf}
use Rattle.number_share.specs.Hands.{Owner}
use Rattle.number_share.specs.Hands as shares
use Rattle.router_work.specs.Routing.{Routing}

-- the layout is that of the grid's board, and each product has an outcome of its kind
pub record IsSite (g : NamedGrid) (l : Grid) (given : List Given) : Type 0 where
  pub layout : l ≡ g.opened.job.grid
  pub outcomes : AreOutcomesOf given g.opened.job.products

-- pass 0, which split off no other
pub record IsFirst (g : NamedGrid) (p : Known) : Type 0 where
  pub of : IsPassOf g p
  pub number : p.view.number ≡ 0
  pub made : p.view.made ≡ 0

-- the hand took each number below k
abbrev pub HoldsBelow : shares.NamedShare → Owner → ℕ → Type 0
HoldsBelow s h k = (n : ℕ) → n < k → Contains h.held n × (n < s.numbers)

-- the router may try each product below k
abbrev pub MayTry : Routing → ℕ → Type 0
MayTry r k = (n : ℕ) → n < k → Contains r.hand.held n × (n < length r.given)
