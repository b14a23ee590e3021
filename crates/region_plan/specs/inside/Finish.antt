-- From a region in the order of its growth to its plan.
use Rattle.std.specs.Prelude.{◌≡◌, ℕ, ◌<◌, length, slice_get, List, Option, Some, None, All, is_some, IsPermutation}
use Rattle.patch_layout.specs.declared.walk.Reached.{Reached}
use Rattle.patch_layout.specs.declared.look.Look.{Look}
use Rattle.patch_layout.specs.declared.plan.Plan.{Plan}
use Rattle.patch_layout.specs.Grid.{Grid}
use Rattle.patch_layout.specs.Region.{wanted_sides}
use Rattle.patch_layout.specs.Certificate.{Certified}
use Rattle.patch_layout.specs.Case.{case_of}
use Rattle.region_plan.specs.Free.{Free, MayTake, Serves}
use Rattle.region_plan.specs.Answer.{IsRegion, GrownFromLeast, LeastJoined}

-- the table has the place of each cell of the list
abbrev pub PlacesIn : List ℕ → List ℕ → Type 0
PlacesIn cells places = (i c : ℕ) → slice_get cells i ≡ Some c → slice_get places c ≡ Some i

-- the k-th is the place of the cell of the k-th touched entry
abbrev pub RenumberedTo : List Reached → List ℕ → List ℕ → List ℕ → ℕ → Type 0
RenumberedTo tree places touched touches n =
    (k t p : ℕ) (r : Reached) → k < n → slice_get touched k ≡ Some t → slice_get tree t ≡ Some r → slice_get places r.cell ≡ Some p → slice_get touches k ≡ Some p

abbrev pub Renumbered : List Reached → List ℕ → List ℕ → List ℕ → Type 0
Renumbered tree places touched touches = (length touches ≡ length touched) × RenumberedTo tree places touched touches (length touched)

-- a plan for the look, whose certificate keeps every rule
pub record Planning (g : Grid) (look : Look) (port : Option ℕ) (p : Plan) : Type 0 where
  pub number : p.number ≡ look.product
  pub axis : p.axis ≡ look.axis
  pub port-is : p.port ≡ port
  pub free : All (Free g look.held) p.cells
  pub certified : Certified (case_of g (is_some port) p)

abbrev pub Finished : Grid → Look → Option ℕ → List ℕ → Plan → Type 0
Finished g look port cells p = Planning g look port p × IsPermutation cells p.cells

-- a plan through one port, from the least first cell that serves; or none, where no fit region lies in the free cells
abbrev pub Through : Grid → Look → Option ℕ → Option Plan → Type 0
Through g look port None = Serves g look port → ⊥
Through g look port (Some p) = Planning g look port p × GrownFromLeast g (Free g look.held) (wanted_sides look.axis port) p.cells

-- the plan, or none where through nothing that may be taken a fit region lies in the free cells
abbrev pub Found : Grid → Look → Option Plan → Type 0
Found g look None = (port : Option ℕ) → MayTake g look port → Serves g look port → ⊥
Found g look (Some p) = IsRegion g look p × LeastJoined g look p.port p.cells
