-- Which entry comes next where a board is brought to its end.
use Rattle.std.specs.Prelude.{◌≡◌, ℕ, slice_get, List, [], Option, Some, None, IsSome}
use Rattle.source_model.specs.declared.Static.{Static}
use Rattle.source_model.specs.declared.Given.{Given}
use Rattle.source_model.specs.declared.Kind.TheVariants as kind
use Rattle.patch_layout.specs.declared.look.Look.{Look}
use Rattle.patch_layout.specs.Grid.{Grid, HasStore}
use Rattle.patch_layout.specs.Openness.{Least}
use Rattle.board_core.specs.declared.Entry.{Entry}
use Rattle.board_core.specs.declared.Entry.TheVariants.{Claim, Deliver, Release, Step, Settle}
use Rattle.board_core.specs.History.{History, claim_place, done_place, release_place, delivered}
use Rattle.board_core.specs.Position.{Position, past}
use Rattle.board_core.specs.Causes.{IsProduct, ready}
use Rattle.board_core.specs.Shows.{Shows}

-- what the port and the cells of a region meet, by the layout and the look
abbrev pub Meeting : Type 1
Meeting = Grid → Look → Option ℕ → List ℕ → Type 0

-- the product is claimed, and has no outcome yet
abbrev pub IsPending : History → ℕ → Type 0
IsPending h p = IsSome (claim_place h p) × (done_place h p ≡ None)

-- the product is delivered, and not released yet
abbrev pub IsUnreleased : History → ℕ → Type 0
IsUnreleased h p = IsSome (delivered h p) × (release_place h p ≡ None)

abbrev pub NoneIs : (ℕ → Type 0) → Type 0
NoneIs P = (p : ℕ) → P p → ⊥

-- each claimed product is delivered and released
abbrev pub IsIdle : History → Type 0
IsIdle h = NoneIs (IsPending h) × NoneIs (IsUnreleased h)

-- p is the least product that isn't done, and each claimed one is delivered and released
abbrev pub IsTurnOf : Position → ℕ → Type 0
IsTurnOf b p = IsIdle (past b) × ((s : Static) × IsProduct b p s) × Least (λ q. done_place (past b) q ≡ None) p

-- no factory has a ready state
abbrev pub NoStates : Position → Type 0
NoStates b = (f : ℕ) → ready b f ≡ []

abbrev pub IsRotation : Position → ℕ → Type 0
IsRotation b p = (s : Static) × IsProduct b p s × (s.kind ≡ kind.Rotation)

abbrev pub IsFactory : Grid → ℕ → Type 0
IsFactory g f = (store : ℕ) × HasStore g f store

-- first the outcomes of what is claimed, then the releases of what is delivered, each time the least product; then the least
-- product that isn't done: it is settled, or claimed by a region that meets the planner's relation for a look at it, and
-- while it is a rotation and no factory has a ready state, the least factory makes a step
abbrev pub ComesNext : Meeting → List Given → Position → Entry → Type 0
ComesNext Meets given b (Deliver p g) = Least (IsPending (past b)) p × (slice_get given p ≡ Some g)
ComesNext Meets given b (Release p) = NoneIs (IsPending (past b)) × Least (IsUnreleased (past b)) p
ComesNext Meets given b (Settle p flip) = IsTurnOf b p
ComesNext Meets given b (Step f) = Least (IsFactory b.job.grid) f × NoStates b × ((p : ℕ) × IsTurnOf b p × IsRotation b p)
ComesNext Meets given b (Claim p axis port state cells) = IsTurnOf b p × ((look : Look) × Shows b p look × Meets b.job.grid look port cells)

-- no claim
abbrev pub never : Meeting
never g look port cells = ⊥
