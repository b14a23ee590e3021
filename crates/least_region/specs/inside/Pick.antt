-- The least entry on a side that a region must touch.
use Rattle.std.specs.Prelude.{◌≡◌, ℕ, Bool, true, false, ◌+◌, ◌-◌, ◌^◌, ◌<◌, ◌≤◌, ◌⊎◌, ◌↔◌, length, slice_get, slice_set, replicate, List, [], ◌∷◌, ◌++◌, Option, Some, None, Contains}
use Rattle.patch_layout.specs.declared.look.Look.{Look}
use Rattle.patch_layout.specs.declared.plan.Plan.{Plan}
use Rattle.patch_layout.specs.declared.layout.Side.{Side}
use Rattle.patch_layout.specs.declared.layout.Side.TheVariants as side
use Rattle.patch_layout.specs.Grid.{Grid}
use Rattle.patch_layout.specs.Region.{OnSide, wanted_sides}
use Rattle.patch_layout.specs.Spread.{Marked}
use Rattle.region_plan.specs.Free.{Free, MayTake, IsOffered}
use Rattle.region_plan.specs.Answer.{IsRegion}
use Rattle.least_region.specs.inside.Table.{Entry, Table}
use Rattle.least_region.specs.inside.Trace.{Traced}
use Rattle.least_region.specs.declared.picks.Pick.{Pick}

-- the pick, or one of the cells with a lesser size, and none of the first n has less
pub record BetterTo (row : List ℕ) (pair : List (Option ℕ)) (n : ℕ) (port : Option ℕ) (old new : Pick) : Type 0 where
  pub under : new.size ≤ old.size
  pub is : (new ≡ old) ⊎ ((new.port ≡ port) × Contains pair (Some new.cell) × (slice_get row new.cell ≡ Some new.size))
  pub least : (i c v : ℕ) → i < n → slice_get pair i ≡ Some (Some c) → slice_get row c ≡ Some v → new.size ≤ v

-- the pick, or a cell on the side with a lesser size, and no cell on the side has less
pub record Better (g : Grid) (row : List ℕ) (s : Side) (port : Option ℕ) (old new : Pick) : Type 0 where
  pub under : new.size ≤ old.size
  pub is : (new ≡ old) ⊎ ((new.port ≡ port) × OnSide g s new.cell × (slice_get row new.cell ≡ Some new.size))
  pub least : (c v : ℕ) → OnSide g s c → slice_get row c ≡ Some v → new.size ≤ v

abbrev pub OnOffered : Grid → Look → List ℕ → ℕ → Pick → Type 0
OnOffered g look row f p = IsOffered g look f × (p.port ≡ Some f) × OnSide g (side.Port f) p.cell × (slice_get row p.cell ≡ Some p.size)

abbrev pub LeastOn : Grid → Look → List ℕ → ℕ → Pick → Type 0
LeastOn g look row f p = (c v : ℕ) → IsOffered g look f → OnSide g (side.Port f) c → slice_get row c ≡ Some v → p.size ≤ v

abbrev pub BetterPort : Grid → Look → List ℕ → ℕ → Pick → Pick → Type 0
BetterPort g look row f old new = (new.size ≤ old.size) × ((new ≡ old) ⊎ OnOffered g look row f new) × LeastOn g look row f new

-- the same for the first n ports, where they are offered
abbrev pub BestPort : Grid → Look → List ℕ → ℕ → Pick → Pick → Type 0
BestPort g look row n old new = (new.size ≤ old.size)
    × ((new ≡ old) ⊎ ((f : ℕ) × OnOffered g look row f new))
    × ((f : ℕ) → f < n → LeastOn g look row f new)

-- the sides that the axis asks for without the last one, which is the goal; for a rotation a port is the last one
abbrev pub Split : Look → List Side → Option Side → Type 0
Split look sides None = (look.rotation ≡ true) × (sides ≡ wanted_sides look.axis None)
Split look sides (Some s) = (look.rotation ≡ false) × (wanted_sides look.axis None ≡ sides ++ s ∷ [])

-- through the port, a region must touch these sides and this one
abbrev pub IsGoal : Grid → Look → List Side → Option ℕ → Side → Type 0
IsGoal g look sides port s = MayTake g look port × (wanted_sides look.axis port ≡ sides ++ s ∷ [])

-- the pick, or a cell on a goal with a lesser size, and no cell on a goal has less
pub record Picked (g : Grid) (look : Look) (sides : List Side) (row : List ℕ) (old new : Pick) : Type 0 where
  pub is : (new ≡ old) ⊎ ((s : Side) × IsGoal g look sides new.port s × OnSide g s new.cell × (slice_get row new.cell ≡ Some new.size))
  pub least : (port : Option ℕ) (s : Side) (c v : ℕ) → IsGoal g look sides port s → OnSide g s c → slice_get row c ≡ Some v → new.size ≤ v

-- the marks are those of the cells that are free in the look
abbrev pub FreeMarks : Grid → List (Option ℕ) → List Bool → Type 0
FreeMarks g held free = (c : ℕ) → Marked free c ↔ Free g held c

-- a region of no more cells than the pick says
abbrev pub PlannedAt : Grid → Look → List (List ℕ) → Pick → Plan → Type 0
PlannedAt g look rows pick p =
    (free : List Bool) (limit : ℕ) (sides : List Side) (s : Side)
    → Table g free limit sides rows → length rows ≡ 2 ^ length sides → FreeMarks g look.held free
    → IsGoal g look sides pick.port s → OnSide g s pick.cell
    → Entry rows (length rows - 1) pick.cell pick.size → pick.size ≤ limit
    → IsRegion g look p × (length p.cells ≤ pick.size)

-- the marks are those of the set of the last row's entry at the cell
abbrev pub MarkedAt : Grid → List (List ℕ) → ℕ → List Bool → Type 0
MarkedAt g rows c marks =
    (free : List Bool) (limit : ℕ) (sides : List Side) → Table g free limit sides rows
    → ((v : ℕ) → Entry rows (length rows - 1) c v → v ≤ limit)
    → (start : List Bool) × (start ≡ slice_set (replicate (length g.sites) false) c true)
    × Traced g free sides rows (length rows - 1) c start marks

-- the pick is the least entry of the last row on a goal, or its size is above the limit
abbrev pub Searched : Grid → Look → List Side → List (List ℕ) → ℕ → Pick → Type 0
Searched g look sides rows limit pick = (last : List ℕ) × (none : Pick)
    × (slice_get rows (length rows - 1) ≡ Some last) × (none.size ≡ limit + 1)
    × Picked g look sides last none pick
