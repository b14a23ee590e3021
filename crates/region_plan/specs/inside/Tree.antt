-- A region in the order of its growth: each cell but the first was joined to an earlier one.
use Rattle.std.specs.Prelude.{◌≡◌, ℕ, ◌+◌, ◌^◌, ◌<◌, ◌≤◌, length, map, slice_get, List, [], ◌∷◌, ◌++◌, Option, Some, None}
use Rattle.patch_layout.specs.declared.walk.Reached.{Reached}
use Rattle.patch_layout.specs.declared.layout.Side.{Side}
use Rattle.patch_layout.specs.Grid.{Grid}
use Rattle.patch_layout.specs.Region.{OnSide}
use Rattle.patch_layout.specs.Spread.{Came, InQueue}
use Rattle.patch_layout.specs.Joined.{Adds, Joining}

abbrev pub cells_in : List Reached → List ℕ
cells_in tree = map (λ r. r.cell) tree

-- how many cells there are, and those that were joined
pub record Growth : Type 0 where
  pub size : ℕ
  pub tree : List Reached

abbrev pub growth : ℕ → List Reached → Growth
growth size tree = record { size = size; tree = tree }

-- the table has the place of each cell
pub record Placing (tree : List Reached) (places : List (Option ℕ)) : Type 0 where
  pub few : length places < 2 ^ 32
  pub place : (k : ℕ) (r : Reached) → slice_get tree k ≡ Some r → slice_get places r.cell ≡ Some (Some k)
  pub is_place : (c k : ℕ) → slice_get places c ≡ Some (Some k) → (r : Reached) × (slice_get tree k ≡ Some r) × (r.cell ≡ c)
  pub steps : (k : ℕ) (r : Reached) → slice_get tree k ≡ Some r → r.steps ≤ k

-- the place of a cell in the region, or None where it isn't in it
abbrev pub PlaceOf : List Reached → ℕ → Option ℕ → Type 0
PlaceOf tree c None = InQueue tree c → ⊥
PlaceOf tree c (Some k) = (r : Reached) × (slice_get tree k ≡ Some r) × (r.cell ≡ c)

-- each cell but the first was joined to an earlier one next to it
abbrev pub Rooted : Grid → (ℕ → Type 0) → ℕ → List Reached → Type 0
Rooted g Free first tree = (k : ℕ) (r : Reached) → slice_get tree k ≡ Some r → Came g Free (first ∷ []) tree k r

-- the region after a try to join it to T, and the place of its cell there
abbrev pub Grafted : Grid → (ℕ → Type 0) → (ℕ → Type 0) → List Reached → List Reached → Option ℕ → Type 0
Grafted g Free T tree after None = (after ≡ tree) × ((others : List ℕ) → Joining g Free T (cells_in tree) others → ⊥)
Grafted g Free T tree after (Some place) =
    (added : List Reached) × (after ≡ tree ++ added) × Adds g Free T (cells_in tree) (cells_in added) × ((r : Reached) × (slice_get after place ≡ Some r) × T r.cell)

-- the place of a cell on each side
abbrev pub TouchedTo : Grid → List Side → List Reached → List ℕ → ℕ → Type 0
TouchedTo g sides tree touched n =
    (k : ℕ) (s : Side) → k < n → slice_get sides k ≡ Some s → (t : ℕ) × (r : Reached) × (slice_get touched k ≡ Some t) × (slice_get tree t ≡ Some r) × OnSide g s r.cell

-- one more cell, joined to the one at a place by one step more
abbrev pub Pushed : List Reached → ℕ → ℕ → ℕ → List Reached → Type 0
Pushed tree cell from place after =
    (base : Reached) × (slice_get tree from ≡ Some base) × (place ≡ length tree) × (after ≡ tree ++ record { cell = cell; from = from; steps = base.steps + 1 } ∷ [])
