-- The table of least sizes: for each subset of the sides a row, and in it a size for each cell.
-- A size above the limit says nothing.
use Rattle.std.specs.Prelude.{◌≡◌, ℕ, Bool, ◌+◌, ◌^◌, ◌<◌, ◌≤◌, ◌⊎◌, length, slice_get, List, Some}
use Rattle.patch_layout.specs.declared.layout.Side.{Side}
use Rattle.patch_layout.specs.Grid.{Grid, Adjacent}
use Rattle.patch_layout.specs.Region.{OnSide}
use Rattle.patch_layout.specs.Spread.{Marked}
use Rattle.least_region.specs.inside.Subset.{Parts}

-- the row's size at the cell is at most n
abbrev pub AtMost : List ℕ → ℕ → ℕ → Type 0
AtMost row c n = (v : ℕ) × (slice_get row c ≡ Some v) × (v ≤ n)

abbrev pub Entry : List (List ℕ) → ℕ → ℕ → ℕ → Type 0
Entry rows m c v = (row : List ℕ) × (slice_get rows m ≡ Some row) × (slice_get row c ≡ Some v)

-- the cell alone touches the sides of the subset: there are none, or just one, and it lies on that
abbrev pub IsBase : Grid → List Side → ℕ → ℕ → Type 0
IsBase g sides m c = (m ≡ 0) ⊎ ((i : ℕ) × (s : Side) × (m ≡ 2 ^ i) × (slice_get sides i ≡ Some s) × OnSide g s c)

-- a neighbour has less
abbrev pub IsGrown : Grid → List ℕ → ℕ → ℕ → Type 0
IsGrown g row c v = (d : ℕ) × (w : ℕ) × Adjacent g c d × (slice_get row d ≡ Some w) × (w < v)

-- two parts of the subset have sets with the cell, and together one cell more, since they share it
abbrev pub IsUnited : List (List ℕ) → ℕ → ℕ → ℕ → Type 0
IsUnited rows m c v = (a : ℕ) × (b : ℕ) × (x : ℕ) × (y : ℕ)
    × Parts a b m × (0 < a) × (0 < b) × Entry rows a c x × Entry rows b c y × (x + y ≤ v + 1)

-- why no set for an entry has to have more cells than it says
abbrev pub HasReason : Grid → (ℕ → Type 0) → List (List ℕ) → ℕ → List ℕ → ℕ → ℕ → Type 0
HasReason g Base rows m row c v = Base c ⊎ (IsGrown g row c v ⊎ IsUnited rows m c v)

-- each size that says something has a reason
pub record Reasoned (g : Grid) (free : List Bool) (limit : ℕ) (Base : ℕ → Type 0)
    (rows : List (List ℕ)) (m : ℕ) (row : List ℕ) : Type 0 where
  pub sizes : length row ≡ length g.sites
  pub some : (c v : ℕ) → slice_get row c ≡ Some v → 0 < v
  pub on_free : (c v : ℕ) → slice_get row c ≡ Some v → v ≤ limit → Marked free c
  pub reason : (c v : ℕ) → slice_get row c ≡ Some v → v ≤ limit → HasReason g Base rows m row c v

-- a size is at most what a neighbour or two parts allow
pub record Closed (g : Grid) (free : List Bool) (limit : ℕ) (Base : ℕ → Type 0)
    (rows : List (List ℕ)) (m : ℕ) (row : List ℕ) : Type 0 where
  pub base : (c : ℕ) → Base c → Marked free c → AtMost row c 1
  pub grown : (c d v : ℕ) → slice_get row c ≡ Some v → v < limit → Adjacent g c d → Marked free d → AtMost row d (v + 1)
  pub united : (a b c x y n : ℕ) → Parts a b m → 0 < a → 0 < b → Entry rows a c x → Entry rows b c y
      → x + y ≡ n + 1 → n ≤ limit → AtMost row c n

abbrev pub LeastRow : Grid → List Bool → ℕ → (ℕ → Type 0) → List (List ℕ) → ℕ → List ℕ → Type 0
LeastRow g free limit Base rows m row = Reasoned g free limit Base rows m row × Closed g free limit Base rows m row

-- a table of some subsets
abbrev pub Table : Grid → List Bool → ℕ → List Side → List (List ℕ) → Type 0
Table g free limit sides rows = (m : ℕ) (row : List ℕ) → slice_get rows m ≡ Some row
    → LeastRow g free limit (IsBase g sides m) rows m row
