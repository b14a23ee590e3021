-- A plan as what the check judges.
use Rattle.std.specs.Prelude.{◌≡◌, ℕ, Bool, ◌+◌, ◌<◌, slice_get, List, Option, Some}
use Rattle.pauli_product.specs.Signed.{Signed}
use Rattle.patch_layout.specs.declared.plan.Parent.{Parent}
use Rattle.patch_layout.specs.declared.plan.Plan.{Plan}
use Rattle.patch_layout.specs.Grid.{Grid}
use Rattle.patch_layout.specs.Certificate.{Case}

abbrev pub case : Grid → Bool → Signed → Option ℕ → List ℕ → List Parent → List ℕ → Case
case g rotation axis port cells parents touches = record { grid = g; rotation = rotation; axis = axis; port = port; cells = cells; parents = parents; touches = touches }

abbrev pub case_of : Grid → Bool → Plan → Case
case_of g rotation p = case g rotation p.axis p.port p.cells p.parents p.touches

-- each cell is greater than the one before it
abbrev pub Ascending : List ℕ → Type 0
Ascending cells = (j a b : ℕ) → slice_get cells j ≡ Some a → slice_get cells (j + 1) ≡ Some b → a < b
