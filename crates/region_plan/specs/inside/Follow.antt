-- From the entry where a walk met a region back to the side.
use Rattle.std.specs.Prelude.{◌≡◌, ℕ, ◌↔◌, length, List, Option, Some, None, Contains, All}
use Rattle.patch_layout.specs.declared.walk.Reached.{Reached}
use Rattle.patch_layout.specs.declared.layout.Side.{Side}
use Rattle.patch_layout.specs.Grid.{Grid}
use Rattle.patch_layout.specs.Region.{OnSide}
use Rattle.patch_layout.specs.Spread.{InQueue, NoneBefore, OneAt}
use Rattle.patch_layout.specs.Joined.{Joining}
use Rattle.region_plan.specs.Free.{Free}
use Rattle.region_plan.specs.inside.Walk.{FreeOnes, Reaches, MetAt}
use Rattle.region_plan.specs.inside.Tree.{Growth, cells_in, Rooted, Grafted}
use Rattle.region_plan.specs.declared.walk.Met.{Met}

-- the walk from the side that came to the region at this entry, and at none before
pub record Found (g : Grid) (held : List (Option ℕ)) (side : Side) (tree queue : List Reached) (head : ℕ) : Type 0 where
  pub pair : List (Option ℕ)
  pub on : (c : ℕ) → Contains pair (Some c) ↔ OnSide g side c
  pub starts : List ℕ
  pub ones : FreeOnes g held pair starts
  pub reaches : Reaches g (Free g held) starts queue head
  pub none : NoneBefore (InQueue tree) queue head
  pub one : OneAt (InQueue tree) queue head

-- where the walk met the region, or None where no free cells lead from the region to the side
abbrev pub Leading : Grid → List (Option ℕ) → Side → Growth → List Reached → Option Met → Type 0
Leading g held side region queue None = (others : List ℕ) → Joining g (Free g held) (OnSide g side) (cells_in region.tree) others → ⊥
Leading g held side region queue (Some met) =
    Found g held side region.tree queue met.head × MetAt queue region.tree met × All (Free g held) (cells_in region.tree) × (region.size ≡ length g.sites)

-- the region was joined to the side by the least number of cells, each to an earlier one
abbrev pub Follows : Grid → List (Option ℕ) → Side → List Reached → List Reached → Option ℕ → Type 0
Follows g held side tree after place =
    Grafted g (Free g held) (OnSide g side) tree after place × ((first : ℕ) → Rooted g (Free g held) first tree → Rooted g (Free g held) first after)

-- in some grid it is there that a walk met the region
abbrev pub SomeLeading : Growth → List Reached → Option Met → Type 0
SomeLeading region queue met = (g : Grid) × (held : List (Option ℕ)) × (side : Side) × Leading g held side region queue met

-- and in each where it is, the region was joined from there
abbrev pub EachFollows : Growth → Growth → List Reached → Option Met → Option ℕ → Type 0
EachFollows region after queue met place =
    (g : Grid) (held : List (Option ℕ)) (side : Side) → Leading g held side region queue met → Follows g held side region.tree after.tree place
