-- A region that grew from a cell, and what serves.
use Rattle.std.specs.Prelude.{◌≡◌, ◌≢◌, ℕ, Bool, true, false, ◌<◌, AllPairs, length, slice_get, List, [], ◌∷◌, Option, Some, None}
use Rattle.patch_layout.specs.declared.walk.Reached.{Reached}
use Rattle.patch_layout.specs.declared.layout.Side.{Side}
use Rattle.patch_layout.specs.Grid.{Grid, Sound}
use Rattle.patch_layout.specs.Region.{OnSide}
use Rattle.patch_layout.specs.Spread.{starting}
use Rattle.patch_layout.specs.Joined.{Grown}
use Rattle.region_plan.specs.inside.Growing.{CutOff}
use Rattle.region_plan.specs.inside.Tree.{cells_in, Rooted, TouchedTo}
use Rattle.region_plan.specs.declared.growth.Region.{Region}

-- the region grew over the sides from a free cell, and touches each of them
pub record Sprung (g : Grid) (Free : ℕ → Type 0) (sides : List Side) (first : ℕ) (tree : List Reached) (touched : List ℕ) : Type 0 where
  pub free : Free first
  pub grown : Grown g Free (first ∷ []) sides (cells_in tree)
  pub root : slice_get tree 0 ≡ Some (starting first)
  pub rooted : Rooted g Free first tree
  pub distinct : AllPairs (λ a b. a ≢ b) (cells_in tree)
  pub as_many : length touched ≡ length sides
  pub touches : TouchedTo g sides tree touched (length sides)

-- a growth over all sides
pub record GrownOver (g : Grid) (Free : ℕ → Type 0) (sides : List Side) (tree after : List Reached) (touched : List ℕ) : Type 0 where
  pub grown : Grown g Free (cells_in tree) sides (cells_in after)
  pub kept : (k : ℕ) (r : Reached) → slice_get tree k ≡ Some r → slice_get after k ≡ Some r
  pub rooted : (first : ℕ) → Rooted g Free first tree → Rooted g Free first after
  pub distinct : AllPairs (λ a b. a ≢ b) (cells_in after)
  pub as_many : length touched ≡ length sides
  pub touches : TouchedTo g sides after touched (length sides)

-- a region that grew over all sides and touches them, and what it started with stays where it was; or the sides are cut off from that
abbrev pub SprungFrom : Grid → (ℕ → Type 0) → List Side → List Reached → List Reached → List ℕ → Bool → Type 0
SprungFrom g Free sides tree after touched true = GrownOver g Free sides tree after touched
SprungFrom g Free sides tree after touched false = CutOff g Free (cells_in tree) sides

-- the grid is sound, and the tables of the region have an entry for each cell
abbrev pub HasTables : Grid → Region → Type 0
HasTables g r = Sound g × (r.tree.size ≡ length g.sites) × (length r.seen ≡ length g.sites)

-- a region that grew from this cell, where there is one and it is free, or none because it is cut off from a side
abbrev pub At : Grid → (ℕ → Type 0) → Option ℕ → List Side → Option Region → Type 0
At g Free cell sides None = (c : ℕ) → cell ≡ Some c → Free c → CutOff g Free (c ∷ []) sides
At g Free cell sides (Some r) = (first : ℕ) × (cell ≡ Some first) × Sprung g Free sides first r.tree.tree r.touched.items × HasTables g r

-- a region from the least free cell on the side that isn't cut off from the sides, or none because each is
abbrev pub Served : Grid → (ℕ → Type 0) → Side → List Side → Option Region → Type 0
Served g Free s sides None = (c : ℕ) → Free c → OnSide g s c → CutOff g Free (c ∷ []) sides
Served g Free s sides (Some r) =
    (first : ℕ) × OnSide g s first × Sprung g Free sides first r.tree.tree r.touched.items × ((c : ℕ) → c < first → Free c → OnSide g s c → CutOff g Free (c ∷ []) sides)
