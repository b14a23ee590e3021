-- The laws of planned regions.
use Rattle.std.specs.Prelude.{ℕ, Option, List}
use Rattle.patch_layout.specs.Grid.{Grid, Sound}
use Rattle.patch_layout.specs.Region.{wanted_sides}
use Rattle.patch_layout.specs.declared.look.Look.{Look}
use Rattle.patch_layout.specs.declared.plan.Plan.{Plan}
use Rattle.region_plan.specs.Free.{Free, FitsFree}
use Rattle.region_plan.specs.Answer.{IsRegion, Joined, LeastJoined}

-- a region that grows from the least cell that serves is joined side by side
abbrev pub LeastJoinedIsJoined : Type 0
LeastJoinedIsJoined = (g : Grid) (look : Look) (port : Option ℕ) (cells : List ℕ) →
    LeastJoined g look port cells →
    Joined g (Free g look.held) (wanted_sides look.axis port) cells

-- the cells of a region are free and fit
abbrev pub RegionsFit : Type 0
RegionsFit = (g : Grid) (look : Look) (p : Plan) →
    Sound g → IsRegion g look p → FitsFree g look p.port p.cells
