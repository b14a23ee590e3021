-- A board that routers, makers and a deliverer brought forward.
use Rattle.std.specs.Prelude.{◌≡◌, ◌⊎◌, ℕ, Bool, false, ◌+◌, ◌==◌, ◌<◌, ◌≤◌, List, ◌++◌, All, length}
use Rattle.std.specs.List.{filter, list_any, range_with_len}
use Rattle.patch_layout.specs.declared.layout.Site.{Site}
use Rattle.patch_layout.specs.declared.layout.Site.TheVariants as site
use Rattle.patch_layout.specs.Grid.{Grid}
use Rattle.board_core.specs.declared.Noted.{Noted}
use Rattle.board_core.specs.Position.{Position, with_history, IsLegal}
use Rattle.router_work.specs.Passing.{IsStepOf}
use Rattle.arrival_line.specs.declared.arrival.Arrival.{Arrival}
use Rattle.arrival_line.specs.Strays.{Serves}
use Rattle.live_readout.specs.Entries.{IsTaking, IsHanding}
use Rattle.live_readout.specs.Wanted.{wanted_of}

-- the layout's factories, ascending
abbrev pub is_port_of : ℕ → Site → Bool
is_port_of f site.Ancilla = false
is_port_of f site.Wall = false
is_port_of f (site.Patch q level) = false
is_port_of f (site.Port g level store) = g == f

abbrev pub has_factory : Grid → ℕ → Bool
has_factory g f = list_any (is_port_of f) g.sites

abbrev pub factories_of : Grid → List ℕ
factories_of g = filter (has_factory g) (range_with_len 0 16)

-- workers 1 to k are routers, the next m make steps of one factory each, and the one after these delivers arrivals of which
-- something holds
abbrev pub IsByLiveWorker : (Arrival → Type 0) → ℕ → ℕ → Noted → Type 0
IsByLiveWorker Fits k m n =
    ((1 ≤ n.by) × (n.by ≤ k) × IsTaking n.entry)
    ⊎ ((k < n.by) × (n.by ≤ k + m) × ((f : ℕ) × IsStepOf f n.entry))
    ⊎ ((n.by ≡ k + m + 1) × IsHanding Fits n.entry)

-- the board c is b after further entries, and its history is legal: claims and settlings are by routers, steps by makers, and
-- deliveries, each of an arrival that is no stray, and releases by the deliverer
pub record RoutesLive (arrivals : List Arrival) (k : ℕ) (b c : Position) : Type 0 where
  pub added : List Noted
  pub is : c ≡ with_history b (b.history ++ added)
  pub by_workers : All (IsByLiveWorker (Serves (wanted_of b) arrivals) k (length (factories_of b.job.grid))) added
  pub legal : IsLegal c
