-- The first one that breaks a rule, as the check looks for it.
use Rattle.std.specs.Prelude.{◌≡◌, ℕ, ◌+◌, ◌<◌, slice_get, List, Option, Some, None}
use Rattle.patch_layout.specs.Grid.{Grid}
use Rattle.patch_layout.specs.declared.layout.Side.{Side}
use Rattle.patch_layout.specs.Region.{OnSide}
use Rattle.patch_layout.specs.Certificate.{Each, FirstBreaking}

-- the k-th touch is the index of a cell that lies on this side
abbrev pub TouchAt : Grid → List ℕ → List ℕ → ℕ → Side → Type 0
TouchAt g cells touches k s = (t : ℕ) × (d : ℕ) × (slice_get touches k ≡ Some t) × (slice_get cells t ≡ Some d) × OnSide g s d

-- the first place from k on whose touch doesn't lie on its side, where these sides are asked for one after another
abbrev pub BadFrom : Grid → List ℕ → List ℕ → ℕ → List Side → Option ℕ → Type 0
BadFrom g cells touches k sides None = (i : ℕ) (s : Side) → slice_get sides i ≡ Some s → TouchAt g cells touches (k + i) s
BadFrom g cells touches k sides (Some bad) =
    (i : ℕ) × (s : Side) × (bad ≡ k + i) × (slice_get sides i ≡ Some s) × (TouchAt g cells touches bad s → ⊥)
    × ((j : ℕ) (t : Side) → j < i → slice_get sides j ≡ Some t → TouchAt g cells touches (k + j) t)

-- the first one that breaks the rule, or None where each keeps it
abbrev pub Judged : (ℕ → Type 0) → ℕ → Option ℕ → Type 0
Judged P n None = Each P n
Judged P n (Some k) = FirstBreaking P n k
