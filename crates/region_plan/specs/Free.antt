-- What a look leaves to a region.
use Rattle.std.specs.Prelude.{◌≡◌, ◌≢◌, ℕ, true, false, ◌<◌, slice_get, List, Option, Some, None, All}
use Rattle.pauli_product.specs.Signed.{HasLetter}
use Rattle.patch_layout.specs.declared.look.Look.{Look}
use Rattle.patch_layout.specs.Grid.{Grid, IsAncilla, IsPatch, IsPort}
use Rattle.patch_layout.specs.Region.{Fit}

abbrev pub IsUnheld : List (Option ℕ) → ℕ → Type 0
IsUnheld held c = slice_get held c ≡ Some None

-- an ancilla cell that no product holds
abbrev pub Free : Grid → List (Option ℕ) → ℕ → Type 0
Free g held c = IsAncilla g c × IsUnheld held c

-- the qubit has a letter, and a product holds its patch
abbrev pub IsHeldAt : Grid → Look → ℕ → Type 0
IsHeldAt g look q = HasLetter look.axis q × ((c : ℕ) × (by : ℕ) × IsPatch g q c × (slice_get look.held c ≡ Some (Some by)))

-- a product holds the patch of a qubit that has a letter
abbrev pub PatchHeld : Grid → Look → Type 0
PatchHeld g look = (q : ℕ) × IsHeldAt g look q

abbrev pub IsReady : List ℕ → ℕ → Type 0
IsReady counts f = (n : ℕ) × (slice_get counts f ≡ Some n) × (0 < n)

abbrev pub HasState : Look → ℕ → Type 0
HasState look f = IsReady look.ready f

-- a rotation, and no factory has a ready state
abbrev pub LacksState : Look → Type 0
LacksState look = (look.rotation ≡ true) × ((f : ℕ) → HasState look f → ⊥)

-- the factory has a ready state, and no product holds its port
abbrev pub IsOffered : Grid → Look → ℕ → Type 0
IsOffered g look f = HasState look f × ((c : ℕ) × IsPort g f c × IsUnheld look.held c)

-- what a region may go through: an offered port for a rotation, and none for a measurement
abbrev pub MayTake : Grid → Look → Option ℕ → Type 0
MayTake g look None = look.rotation ≡ false
MayTake g look (Some f) = (look.rotation ≡ true) × IsOffered g look f

-- these free cells are a region that fits
abbrev pub FitsFree : Grid → Look → Option ℕ → List ℕ → Type 0
FitsFree g look port cells = Fit g look.axis port cells × All (Free g look.held) cells

-- a region fits in free cells
abbrev pub Serves : Grid → Look → Option ℕ → Type 0
Serves g look port = (cells : List ℕ) × FitsFree g look port cells
