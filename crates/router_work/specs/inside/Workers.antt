-- What a worker's work does, whichever kind it is.
use Rattle.std.specs.Prelude.{◌≡◌, ℕ, ◌+◌, ◌<◌, ◌≤◌, List, [], ◌++◌, All, length, slice_index_or}
use Rattle.source_model.specs.declared.Given.{Given}
use Rattle.patch_layout.specs.declared.look.Look.{Look}
use Rattle.patch_layout.specs.Grid.{Grid}
use Rattle.grid_lock.specs.Passes.{Known, IsPassOf, NamedGrid, known}
use Rattle.router_work.specs.Passing.{IsRouted, IsStepOf, Passed}
use Rattle.router_work.specs.Routes.{IsByWorker}
use Rattle.router_work.specs.declared.worker.Worker.{Worker}
use Rattle.router_work.specs.declared.worker.Worker.TheVariants.{Route, Make}

-- pass 0 of the grid, between two calls, which has split off n passes
abbrev pub IsFirst : NamedGrid → ℕ → Known → Type 0
IsFirst g n p = IsPassOf g p × (p.view.number ≡ 0) × (p.view.made ≡ n)

-- it split off n passes more
abbrev pub HasSplit : Known → ℕ → Known → Type 0
HasSplit p n q = q ≡ known p.grid (record p.view { made = p.view.made + n })

-- the pass is of the grid, its number is above a and at most c, and it made nothing yet
pub record IsNew (g : NamedGrid) (a c : ℕ) (p : Known) : Type 0 where
  pub of : IsPassOf g p
  pub above : a < p.view.number
  pub most : p.view.number ≤ c
  pub empty : p.view.mine ≡ []

-- a pass after the work: each entry that it made is a worker's
pub record IsBack (g : NamedGrid) (given : List Given) (k : ℕ) (p : Known) : Type 0 where
  pub of : IsPassOf g p
  pub mine : All (IsByWorker given k) p.view.mine

-- the look was made for this layout and so many qubits
abbrev pub IsLookOf : Grid → ℕ → Look → Type 0
IsLookOf g qubits look = (length look.held ≡ length g.sites) × (length look.axis.letters ≡ qubits)

module _ {G : Type 0} where
  abbrev pub pass_of : Worker G → Known
  pass_of (Route r) = r.pass
  pass_of (Make m) = m.pass

  abbrev pub Worked : Worker G → Worker G → Type 0
  Worked (Route r) (Route s) = Passed (IsRouted r.given) r.pass s.pass
  Worked (Route r) (Make n) = ⊥
  Worked (Make m) (Route s) = ⊥
  Worked (Make m) (Make n) = Passed (IsStepOf m.factory) m.pass n.pass

  -- each of them worked
  pub record AreWorked (before after : List (Worker G)) : Type 0 where
    pub same : length after ≡ length before
    pub each : (i : ℕ) (d : Worker G) → i < length before →
        Worked (slice_index_or before i d) (slice_index_or after i d)

  -- a worker before its work: routers have the numbers 1 to k, and makers the next ones
  abbrev pub IsHired : NamedGrid → List Given → ℕ → Worker G → Type 0
  IsHired g given k (Route r) = (r.given ≡ given) × IsNew g 0 k r.pass
  IsHired g given k (Make m) = IsNew g k (k + 16) m.pass

  -- makers came after the workers that there were
  abbrev pub HireMakers : NamedGrid → List (Worker G) → List (Worker G) → Type 0
  HireMakers g before after =
      (more : List (Worker G)) × (after ≡ before ++ more)
      × ((given : List Given) → All (IsHired g given (length before)) more)
