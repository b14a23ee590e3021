-- What a growth over several sides leaves.
use Rattle.std.specs.Prelude.{ℕ, Bool, true, false, List, Contains}
use Rattle.patch_layout.specs.declared.layout.Side.{Side}
use Rattle.patch_layout.specs.Grid.{Grid}
use Rattle.patch_layout.specs.Region.{OnSide}
use Rattle.patch_layout.specs.Joined.{Grown, Joining}

-- no walk through free cells leads from the cells to one of the sides
abbrev pub CutOff : Grid → (ℕ → Type 0) → List ℕ → List Side → Type 0
CutOff g Free have sides = (s : Side) × Contains sides s × ((others : List ℕ) → Joining g Free (OnSide g s) have others → ⊥)

-- it grew over all sides, or they are cut off from the cells that it started with
abbrev pub Grew : Grid → (ℕ → Type 0) → List ℕ → List Side → List ℕ → Bool → Type 0
Grew g Free have sides after true = Grown g Free have sides after
Grew g Free have sides after false = CutOff g Free have sides
