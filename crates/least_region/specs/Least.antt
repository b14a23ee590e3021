-- Least regions for a look.
use Rattle.std.specs.Prelude.{◌≡◌, ℕ, ◌+◌, ◌<◌, ◌≤◌, length, if◌then◌else◌, List, Option, Some, None}
use Rattle.patch_layout.specs.declared.look.Look.{Look}
use Rattle.patch_layout.specs.Grid.{Grid}
use Rattle.patch_layout.specs.Region.{sides_from}
use Rattle.region_plan.specs.Free.{MayTake, FitsFree, LacksState, PatchHeld}
use Rattle.region_plan.specs.Answer.{IsNext, WantsRegion, IsBlocked, IsRegion, LeastJoined}
use Rattle.least_region.specs.declared.answer.LeastPlanned.{LeastPlanned}
use Rattle.least_region.specs.declared.answer.LeastPlanned.TheVariants as least

-- how many sides a region for the look must touch: those of its axis, and for a rotation the port's
abbrev pub width : Look → ℕ
width look = length (sides_from 0 look.axis.letters) + (if look.rotation then 1 else 0)

-- a region that fits in the free cells, through what the look may take
abbrev pub Suits : Grid → Look → Option ℕ → List ℕ → Type 0
Suits g look port cells = MayTake g look port × FitsFree g look port cells

-- and none has fewer cells
abbrev pub IsLeast : Grid → Look → Option ℕ → List ℕ → Type 0
IsLeast g look port cells =
    Suits g look port cells
    × ((other : Option ℕ) (others : List ℕ)
    → Suits g look other others → length cells ≤ length others)

-- the answer for a look
abbrev pub LeastAnswers : Grid → Look → LeastPlanned → Type 0
LeastAnswers g look (least.Region p) =
    WantsRegion look × (PatchHeld g look → ⊥) × (width look ≤ 6)
    × IsRegion g look p × IsLeast g look p.port p.cells
LeastAnswers g look (least.Taken place) = look.taken ≡ Some place
LeastAnswers g look (least.NotReady on) = (look.taken ≡ None) × (look.waits ≡ Some on)
LeastAnswers g look least.NoReady = IsNext look × LacksState look
LeastAnswers g look (least.Wide sides) = WantsRegion look × (sides ≡ width look) × (6 < width look)
LeastAnswers g look least.Blocked = WantsRegion look × (width look ≤ 6) × IsBlocked g look
LeastAnswers g look least.Memory = Unit {0}

-- least for a look of at most six sides, and joined side by side for a wider one
abbrev pub LeastOrJoined : Grid → Look → Option ℕ → List ℕ → Type 0
LeastOrJoined g look port cells =
    (width look ≤ 6 → IsLeast g look port cells) × (6 < width look → LeastJoined g look port cells)
