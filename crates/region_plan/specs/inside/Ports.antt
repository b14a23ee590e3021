-- Regions that grew over the sides of the patches and go on to a port.
use Rattle.std.specs.Prelude.{◌≡◌, ℕ, Bool, true, false, ◌<◌, length, List, [], ◌∷◌, ◌++◌, Option, Some, None}
use Rattle.patch_layout.specs.declared.look.Look.{Look}
use Rattle.patch_layout.specs.declared.walk.Reached.{Reached}
use Rattle.patch_layout.specs.declared.layout.Side.{Side}
use Rattle.patch_layout.specs.declared.layout.Side.TheVariants as side
use Rattle.patch_layout.specs.Grid.{Grid}
use Rattle.patch_layout.specs.Region.{OnSide, wanted_sides}
use Rattle.patch_layout.specs.Joined.{Joining}
use Rattle.region_plan.specs.Free.{Free, IsOffered}
use Rattle.region_plan.specs.inside.Growing.{CutOff}
use Rattle.region_plan.specs.inside.Tree.{cells_in}
use Rattle.region_plan.specs.inside.Ways.{Sprung, Served, HasTables}
use Rattle.region_plan.specs.declared.growth.Region.{Region}
use Rattle.region_plan.specs.declared.ports.Way.{Way}

-- no free cells lead from the region to the port
abbrev pub Unreached : Grid → Look → ℕ → List Reached → Type 0
Unreached g look f tree = (others : List ℕ) → Joining g (Free g look.held) (OnSide g (side.Port f)) (cells_in tree) others → ⊥

-- whatever sides it grew over, it grew over these and then to the port
abbrev pub GoesOn : Grid → Look → ℕ → Region → Region → Type 0
GoesOn g look f old new =
    (first : ℕ) (sides : List Side) → Sprung g (Free g look.held) sides first old.tree.tree old.touched.items
    → Sprung g (Free g look.held) (sides ++ side.Port f ∷ []) first new.tree.tree new.touched.items

-- the region after a try to join it to a port
abbrev pub PortTried : Grid → Look → ℕ → Region → Region → Bool → Type 0
PortTried g look f old new true = IsOffered g look f × GoesOn g look f old new
PortTried g look f old new false =
    (new.tree.tree ≡ old.tree.tree) × (new.touched.items ≡ old.touched.items) × HasTables g new × (IsOffered g look f → Unreached g look f old.tree.tree)

-- none of the first n ports that is offered can be reached
abbrev pub NoneReached : Grid → Look → ℕ → List Reached → Type 0
NoneReached g look n tree = (f : ℕ) → f < n → IsOffered g look f → Unreached g look f tree

-- the least of the first n ports that is offered and can be reached
abbrev pub PortJoined : Grid → Look → ℕ → Region → Region → Option ℕ → Type 0
PortJoined g look n old new None = NoneReached g look n old.tree.tree
PortJoined g look n old new (Some f) = (f < n) × IsOffered g look f × NoneReached g look f old.tree.tree × GoesOn g look f old new

-- through the port nothing grows from the cell
abbrev pub CutFromPort : Grid → Look → ℕ → ℕ → Type 0
CutFromPort g look f c = CutOff g (Free g look.held) (c ∷ []) (wanted_sides look.axis (Some f))

-- through none of the first n ports that is offered anything grows from the cell
abbrev pub NoneFrom : Grid → Look → ℕ → ℕ → Type 0
NoneFrom g look n c = (f : ℕ) → f < n → IsOffered g look f → CutFromPort g look f c

-- the region from this cell, where there is one and it is free, through the least of the first n ports that is offered and serves from there
abbrev pub WayAt : Grid → Look → Option ℕ → ℕ → Option Way → Type 0
WayAt g look cell n None = (c : ℕ) → cell ≡ Some c → Free g look.held c → NoneFrom g look n c
WayAt g look cell n (Some w) =
    (first : ℕ) × (cell ≡ Some first) × (w.factory < n) × IsOffered g look w.factory × NoneFrom g look w.factory first
    × Sprung g (Free g look.held) (wanted_sides look.axis (Some w.factory)) first w.region.tree.tree w.region.touched.items

-- none of the first n ports that is offered serves from a cell on the side
abbrev pub NoneOn : Grid → Look → Side → ℕ → Type 0
NoneOn g look s n = (f : ℕ) → f < n → IsOffered g look f → Served g (Free g look.held) s (wanted_sides look.axis (Some f)) None

-- the region through the least port that is offered and serves, from the least cell on the side that serves
abbrev pub BestWay : Grid → Look → Side → Option Way → Type 0
BestWay g look s None = NoneOn g look s (length look.ready)
BestWay g look s (Some w) =
    IsOffered g look w.factory × NoneOn g look s w.factory × Served g (Free g look.held) s (wanted_sides look.axis (Some w.factory)) (Some w.region)
