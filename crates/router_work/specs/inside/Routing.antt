-- Routers and makers, from their parts.
use Rattle.std.specs.Prelude.{ℕ, List}
use Rattle.source_model.specs.declared.Given.{Given}
use Rattle.grid_lock.specs.Passes.{Known}
use Rattle.grid_lock.specs.Passes as grids
use Rattle.number_share.specs.Hands.{Owner}
use Rattle.number_share.specs.Hands as shares
use Rattle.router_work.specs.Routing.{Routing, Making}

abbrev pub routing : grids.NamedGrid → shares.NamedShare → List Given → Known → Owner → ℕ → Routing
routing grid share given pass hand stops =
    record { grid = grid; share = share; given = given; pass = pass; hand = hand; stops = stops }

abbrev pub making : grids.NamedGrid → Known → ℕ → Making
making grid pass factory = record { grid = grid; pass = pass; factory = factory }
