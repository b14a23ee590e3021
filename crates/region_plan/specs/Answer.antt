-- What a planner answers.
use Rattle.std.specs.Prelude.{◌≡◌, ℕ, ◌<◌, ◌⊎◌, List, [], ◌∷◌, Option, Some, None, All}
use Rattle.patch_layout.specs.declared.look.Look.{Look}
use Rattle.patch_layout.specs.declared.plan.Plan.{Plan}
use Rattle.patch_layout.specs.declared.layout.Side.{Side}
use Rattle.patch_layout.specs.Grid.{Grid}
use Rattle.patch_layout.specs.Region.{OnSide, wanted_sides}
use Rattle.patch_layout.specs.Joined.{Grown}
use Rattle.patch_layout.specs.Certificate.{Certified}
use Rattle.patch_layout.specs.Case.{case_of}
use Rattle.region_plan.specs.declared.answer.Planned.{Planned}
use Rattle.region_plan.specs.declared.answer.Planned.TheVariants as planned
use Rattle.region_plan.specs.Free.{Free, LacksState, PatchHeld, MayTake, Serves}

-- the product has no claim, and waits on none
abbrev pub IsNext : Look → Type 0
IsNext look = (look.taken ≡ None) × (look.waits ≡ None)

-- the product may be claimed as soon as there is a region
abbrev pub WantsRegion : Look → Type 0
WantsRegion look = IsNext look × (LacksState look → ⊥)

-- a patch is held, or through nothing that it may take does a region fit in free cells
abbrev pub IsBlocked : Grid → Look → Type 0
IsBlocked g look = PatchHeld g look ⊎ ((port : Option ℕ) → MayTake g look port → Serves g look port → ⊥)

-- a plan for the look that the check passes, in free cells, through what it may take
pub record IsRegion (g : Grid) (look : Look) (p : Plan) : Type 0 where
  pub number : p.number ≡ look.product
  pub axis : p.axis ≡ look.axis
  pub port : MayTake g look p.port
  pub free : All (Free g look.held) p.cells
  pub certified : Certified (case_of g look.rotation p)

-- the answer for a look, where each region's port and cells meet a relation
abbrev pub Answers : (Option ℕ → List ℕ → Type 0) → Grid → Look → Planned → Type 0
Answers Meets g look (planned.Region p) = WantsRegion look × (PatchHeld g look → ⊥) × IsRegion g look p × Meets p.port p.cells
Answers Meets g look (planned.Taken place) = look.taken ≡ Some place
Answers Meets g look (planned.NotReady on) = (look.taken ≡ None) × (look.waits ≡ Some on)
Answers Meets g look planned.NoReady = IsNext look × LacksState look
Answers Meets g look planned.Blocked = WantsRegion look × IsBlocked g look
Answers Meets g look planned.Memory = Unit {0}

-- the cells grow from one free cell of the first side, and join the further sides one after another by the least number of free cells
abbrev pub GrownFrom : Grid → (ℕ → Type 0) → List Side → ℕ → List ℕ → Type 0
GrownFrom g Free [] first cells = ⊥
GrownFrom g Free (s ∷ ss) first cells = Free first × OnSide g s first × Grown g Free (first ∷ []) ss cells

-- the region starts as one free cell of the first side
abbrev pub Joined : Grid → (ℕ → Type 0) → List Side → List ℕ → Type 0
Joined g Free sides cells = (first : ℕ) × GrownFrom g Free sides first cells

-- and nothing grows from a lesser cell
abbrev pub GrownFromLeast : Grid → (ℕ → Type 0) → List Side → List ℕ → Type 0
GrownFromLeast g Free sides cells =
    (first : ℕ) × GrownFrom g Free sides first cells × ((c : ℕ) (others : List ℕ) → c < first → GrownFrom g Free sides c others → ⊥)

-- the least port that serves
abbrev pub IsLeastPort : Grid → Look → Option ℕ → Type 0
IsLeastPort g look port = (f other : ℕ) → port ≡ Some f → other < f → MayTake g look (Some other) → Serves g look (Some other) → ⊥

-- joined side by side from the least first cell that serves, through the least port that serves
abbrev pub LeastJoined : Grid → Look → Option ℕ → List ℕ → Type 0
LeastJoined g look port cells = IsLeastPort g look port × GrownFromLeast g (Free g look.held) (wanted_sides look.axis port) cells
