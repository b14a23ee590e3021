-- Parents and touches that are read off a breadth-first walk inside a region.
use Rattle.std.specs.Prelude.{◌≡◌, ℕ, Bool, ◌<◌, slice_get, List, Option, Some, None, Contains}
use Rattle.patch_layout.specs.declared.layout.Side.{Side}
use Rattle.patch_layout.specs.Grid.{Grid}
use Rattle.patch_layout.specs.Region.{OnSide, Touches}
use Rattle.patch_layout.specs.Certificate.{TouchFits}
use Rattle.patch_layout.specs.Spread.{Marked}

-- the cells are marked, and the table has the place of each
pub record Placed (cells : List ℕ) (marks : List Bool) (places : List ℕ) : Type 0 where
  pub among : (c : ℕ) → Marked marks c → Contains cells c
  pub marked : (c : ℕ) → Contains cells c → Marked marks c
  pub place : (i c : ℕ) → slice_get cells i ≡ Some c → slice_get places c ≡ Some i

-- the place is that of the cell, or there is none
abbrev pub Placing : List ℕ → Option ℕ → Option ℕ → Type 0
Placing cells cell None = (d : ℕ) → cell ≡ Some d → Contains cells d → ⊥
Placing cells cell (Some t) = (d : ℕ) × (cell ≡ Some d) × (slice_get cells t ≡ Some d)

-- the place of a cell on the side, or None where there is no such cell
abbrev pub Touching : Grid → List ℕ → Side → Option ℕ → Type 0
Touching g cells s None = (d : ℕ) → Contains cells d → OnSide g s d → ⊥
Touching g cells s (Some t) = (d : ℕ) × (slice_get cells t ≡ Some d) × OnSide g s d

-- the touches of the first n sides fit where the cells touch them
abbrev pub TouchEach : Grid → List ℕ → List Side → List ℕ → ℕ → Type 0
TouchEach g cells sides touches n = (k : ℕ) (s : Side) → k < n → slice_get sides k ≡ Some s → Touches g cells s → TouchFits g cells touches sides k
