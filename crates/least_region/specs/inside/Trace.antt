-- From an entry of the table back to a set of as many cells.
use Rattle.std.specs.Prelude.{◌≡◌, ℕ, Bool, ◌+◌, ◌<◌, ◌≤◌, ◌⊎◌, length, slice_get, List, Option, Some, None, Contains, count_by, take, bit_and}
use Rattle.std.specs.Int.{bit_at}
use Rattle.patch_layout.specs.declared.layout.Side.{Side}
use Rattle.patch_layout.specs.Grid.{Grid, Adjacent, Joins}
use Rattle.patch_layout.specs.Region.{OnSide}
use Rattle.patch_layout.specs.Spread.{Marked}
use Rattle.patch_layout.specs.Case.{Ascending}
use Rattle.least_region.specs.inside.Table.{Entry, IsUnited}

-- a neighbour with less, or None where there is none
abbrev pub Nearer : Grid → List ℕ → ℕ → Option ℕ → Type 0
Nearer g row c None = (d w v : ℕ) → Adjacent g c d → slice_get row d ≡ Some w → slice_get row c ≡ Some v → w < v → ⊥
Nearer g row c (Some d) = (w : ℕ) × (v : ℕ) × Adjacent g c d × (slice_get row d ≡ Some w) × (slice_get row c ≡ Some v) × (w < v)

-- the two subsets have sets with the cell, and together one cell more than v
abbrev pub PairFits : List (List ℕ) → ℕ → ℕ → ℕ → ℕ → Type 0
PairFits rows a b c v = (bit_and a b ≡ 0) × ((x : ℕ) × (y : ℕ) × Entry rows a c x × Entry rows b c y × (x + y ≤ v + 1))

-- a part of the subset that so fits with the rest, or None where there is none
abbrev pub PartAt : List (List ℕ) → ℕ → ℕ → ℕ → Option ℕ → Type 0
PartAt rows m c v None = IsUnited rows m c v → ⊥
PartAt rows m c v (Some a) = (b : ℕ) × (a + b ≡ m) × (0 < a) × (0 < b) × PairFits rows a b c v

-- how many cells are marked
abbrev pub marked : List Bool → ℕ
marked marks = count_by (λ b. b) marks

abbrev pub Reaches : Grid → List Bool → Side → Type 0
Reaches g marks s = (d : ℕ) × Marked marks d × OnSide g s d

-- free cells were marked that are joined to the cell, touch the sides of the subset, and aren't more than its entry says
pub record Traced (g : Grid) (free : List Bool) (sides : List Side) (rows : List (List ℕ)) (m c : ℕ) (old new : List Bool) : Type 0 where
  pub kept : (x : ℕ) → Marked old x → Marked new x
  pub on_free : (x : ℕ) → Marked new x → Marked old x ⊎ Marked free x
  pub joined : (x : ℕ) → Marked new x → Marked old x ⊎ Joins g (Marked new) c x
  pub touched : (i : ℕ) (s : Side) → bit_at m i ≡ 1 → slice_get sides i ≡ Some s → Reaches g new s
  pub few : (v : ℕ) → Entry rows m c v → marked new + 1 ≤ marked old + v

-- the first n of the marked cells, ascending
pub record ListedTo (marks : List Bool) (cells : List ℕ) (n : ℕ) : Type 0 where
  pub ascending : Ascending cells
  pub below : (c : ℕ) → Contains cells c → c < n
  pub among : (c : ℕ) → Contains cells c → Marked marks c
  pub all : (c : ℕ) → c < n → Marked marks c → Contains cells c
  pub count : length cells ≡ marked (take n marks)
