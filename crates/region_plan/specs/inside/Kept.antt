-- Walks that are kept from plan to plan.
use Rattle.std.specs.Prelude.{◌≡◌, ℕ, Bool, true, false, ◌<◌, ◌↔◌, length, slice_get, List, [], Option, Some}
use Rattle.patch_layout.specs.declared.walk.Reached.{Reached}
use Rattle.patch_layout.specs.Grid.{Grid, IsAncilla}
use Rattle.region_plan.specs.Free.{Free, IsUnheld}
use Rattle.region_plan.specs.inside.Walk.{FreeOnes, Reaches}
use Rattle.region_plan.specs.declared.kept.Walk.{Walk}

-- the walks that are in use: all or none
abbrev pub used : Bool → List Walk → List Walk
used true walks = walks
used false walks = []

-- no product holds a cell
abbrev pub Unheld : List (Option ℕ) → Type 0
Unheld held = (c : ℕ) → c < length held → IsUnheld held c

-- nor one of the grid
abbrev pub Clear : Grid → List (Option ℕ) → Type 0
Clear g held = (length held ≡ length g.sites) × Unheld held

-- which of the first n cells are ancilla cells
abbrev pub AncillaTo : Grid → ℕ → List Bool → Type 0
AncillaTo g n ancilla = (length ancilla ≡ n) × ((c : ℕ) → c < n → IsAncilla g c ↔ (slice_get ancilla c ≡ Some true))

-- the grid has so many columns and these ancilla cells
pub record Like (g : Grid) (columns : ℕ) (ancilla : List Bool) : Type 0 where
  pub width : g.columns ≡ columns
  pub cells : AncillaTo g (length g.sites) ancilla

-- a walk from the pair to all cells that free cells lead to
abbrev pub KeptFrom : Grid → List (Option ℕ) → List (Option ℕ) → List Reached → Type 0
KeptFrom g held pair queue = (starts : List ℕ) × FreeOnes g held pair starts × Reaches g (Free g held) starts queue (length queue)

-- each of the walks is one from its pair
abbrev pub Suits : Grid → List (Option ℕ) → List Walk → Type 0
Suits g held walks = (k : ℕ) (w : Walk) → slice_get walks k ≡ Some w → KeptFrom g held w.pair w.queue.items

-- and that in each such grid where nothing is held
abbrev pub AllKept : ℕ → List Bool → List Walk → Type 0
AllKept columns ancilla walks = (g : Grid) (held : List (Option ℕ)) → Like g columns ancilla → Clear g held → Suits g held walks

-- one of the walks is this one, from this pair
abbrev pub HasWalk : List Walk → List (Option ℕ) → List Reached → Type 0
HasWalk walks pair queue = (k : ℕ) × (w : Walk) × (slice_get walks k ≡ Some w) × (w.pair ≡ pair) × (w.queue.items ≡ queue)
