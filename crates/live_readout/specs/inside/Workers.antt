-- What the workers of a live run do.
use Rattle.std.specs.Prelude.{◌≡◌, ℕ, ◌+◌, ◌<◌, List, [], ◌++◌, All, Option, length, slice_index_or}
use Rattle.source_model.specs.declared.Kind.{Kind}
use Rattle.arrival_line.specs.declared.arrival.Arrival.{Arrival}
use Rattle.arrival_line.specs.Strays.{Delivers}
use Rattle.board_core.specs.declared.Entry.{Entry}
use Rattle.board_core.specs.declared.Entry.TheVariants.{Release}
use Rattle.board_core.specs.declared.Noted.{Noted}
use Rattle.grid_lock.specs.Passes.{Known, IsCalm, IsPassOf, NamedGrid}
use Rattle.router_work.specs.Passing.{IsStepOf, Passed}
use Rattle.router_work.specs.inside.Workers.{IsNew}
use Rattle.live_readout.specs.Routes.{IsByLiveWorker, factories_of}
use Rattle.live_readout.specs.Entries.{IsTaking, IsHanding}
use Rattle.live_readout.specs.inside.Entries.{delivered_by}
use Rattle.live_readout.specs.declared.worker.Worker.{Worker}
use Rattle.live_readout.specs.declared.worker.Worker.TheVariants.{Route, Make}

abbrev pub IsReleaseOf : ℕ → Entry → Type 0
IsReleaseOf p e = e ≡ Release p

-- a delivery of any outcome, or a release
abbrev pub IsAnyHanding : Entry → Type 0
IsAnyHanding e = IsHanding (λ a. Unit {0}) e

-- the grid that the deliverer works with, and its pass
pub record Handing : Type 0 where
  pub grid : NamedGrid
  pub pass : Known

abbrev pub handing : NamedGrid → Known → Handing
handing grid pass = record { grid = grid; pass = pass }

-- the pass is of the grid, and each entry that it made is of this kind
pub record IsBack (g : NamedGrid) (By : Noted → Type 0) (p : Known) : Type 0 where
  pub of : IsPassOf g p
  pub mine : All By p.view.mine

-- each pass is back, with entries of live workers: so many routers, a maker for each factory, and the deliverer
abbrev pub AreBack : NamedGrid → (Arrival → Type 0) → ℕ → List Known → Type 0
AreBack g Fits k ps = All (IsBack g (IsByLiveWorker Fits k (length (factories_of g.opened.job.grid)))) ps

-- the deliverer's pass at the end: that of the grid with the same number, which made releases and deliveries of arrivals that
-- are no strays
pub record IsLast (g : NamedGrid) (wanted : List (Option Kind)) (all : List Arrival) (p q : Known) : Type 0 where
  pub of : IsPassOf g q
  pub calm : IsCalm q
  pub number : q.view.number ≡ p.view.number
  pub handing : All (λ (n : Noted). IsAnyHanding n.entry) q.view.mine
  pub delivers : Delivers wanted all [] (delivered_by q.view.mine)

module _ {G : Type 0} where
  abbrev pub pass_of : Worker G → Known
  pass_of (Route p) = p
  pass_of (Make m) = m.pass

  -- what a router or a maker does
  abbrev pub Worked : Worker G → Worker G → Type 0
  Worked (Route p) (Route q) = Passed IsTaking p q
  Worked (Route p) (Make n) = ⊥
  Worked (Make m) (Route q) = ⊥
  Worked (Make m) (Make n) = Passed (IsStepOf m.factory) m.pass n.pass

  -- each of them worked
  pub record AreWorked (before after : List (Worker G)) : Type 0 where
    pub same : length after ≡ length before
    pub each : (i : ℕ) (d : Worker G) → i < length before →
        Worked (slice_index_or before i d) (slice_index_or after i d)

  -- before their work: routers have the numbers 1 to k, and m makers the next ones
  abbrev pub IsHired : NamedGrid → ℕ → ℕ → Worker G → Type 0
  IsHired g k m (Route p) = IsNew g 0 k p
  IsHired g k m (Make n) = IsNew g k (k + m) n.pass

  -- makers came after the workers that there were
  abbrev pub HireMakers : NamedGrid → ℕ → List (Worker G) → List (Worker G) → Type 0
  HireMakers g m before after =
      (more : List (Worker G)) × (after ≡ before ++ more) × All (IsHired g (length before) m) more
