-- What the steps of a router's try do.
use Rattle.std.specs.Prelude.{◌≡◌, ◌⊎◌, ℕ, ◌≤◌, Bool, true, false, Option, Some, None, slice_get}
use Rattle.patch_base.specs.Outside.{Rose}
use Rattle.source_model.specs.declared.Given.{Given}
use Rattle.source_model.specs.declared.Given.TheVariants as given
use Rattle.board_core.specs.declared.board.ClaimWhy.{ClaimWhy}
use Rattle.board_core.specs.declared.board.ClaimWhy.TheVariants as claim
use Rattle.grid_lock.specs.Passes.{IsSamePass, IsCalm}
use Rattle.number_share.specs.Hands.{Owner, putting}
use Rattle.router_work.specs.Passing.{IsRouted, Passed}
use Rattle.router_work.specs.Routing.{Routing, IsSameRouter}
use Rattle.router_work.specs.Tries.{IsBegun}
use Rattle.router_work.specs.Ends.{AttemptEnds}
use Rattle.router_work.specs.declared.attempt.Attempt.{Attempt}
use Rattle.router_work.specs.declared.attempt.Attempt.TheVariants as attempt
use Rattle.router_work.specs.declared.attempt.Tried.{Tried}
use Rattle.router_work.specs.declared.router.RouterEnd.{RouterEnd}
use Rattle.router_work.specs.declared.router.RouterEnd.TheVariants as router

-- the router works on: only its pass, its hand and its gate may change
pub record Goes (r s : Routing) : Type 0 where
  pub same : IsSameRouter r s
  pub passed : Passed (IsRouted r.given) r.pass s.pass
  pub stops : r.stops ≤ s.stops

-- a call on the grid: only the pass may have changed
pub record Calls (r s : Routing) : Type 0 where
  pub is : s ≡ record r { pass = s.pass }
  pub same : IsSamePass r.pass s.pass
  pub calm : IsCalm s.pass

-- the gate was asked, and nothing else was done
abbrev pub IsAsked : Routing → Routing → Type 0
IsAsked r s = (s ≡ record r { stops = s.stops }) × (r.stops ≤ s.stops)

-- the outcome of a product that takes a region
abbrev pub IsOutcomeAt : Routing → ℕ → Given → Type 0
IsOutcomeAt r number g = (slice_get r.given number ≡ Some g) × (g ≡ given.Settled → ⊥)

-- a try, whose answer stands for what was done since p, and which leaves the hand
pub record IsTried (r : Routing) (number : ℕ) (t : Tried) (s : Routing) : Type 0 where
  pub goes : Goes r s
  pub hand : s.hand ≡ r.hand
  pub ends : AttemptEnds r t.answer s
  pub begun : t.begun ≡ true → IsBegun s.pass number

-- the turn or the gate ended the try before there was a plan
abbrev pub IsCutShort : Routing → Routing → Attempt → Type 0
IsCutShort r s a = ((a ≡ attempt.Busy) ⊎ (a ≡ attempt.Stopped)) × AttemptEnds r a s

-- the end of a router's work that an answer brings about
abbrev pub end_of : Attempt → Option RouterEnd
end_of attempt.Stopped = Some router.Stopped
end_of attempt.Busy = Some router.Busy
end_of attempt.Memory = Some router.Memory
end_of (attempt.Claimed place) = None
end_of (attempt.Settled place) = None
end_of (attempt.Taken place) = None
end_of (attempt.NotReady on) = None
end_of attempt.NoReady = None
end_of attempt.Blocked = None
end_of (attempt.Refused why) = None

-- after a refusal for this cause the product is claimed already
abbrev pub is_taken : ClaimWhy → Bool
is_taken claim.NoProduct = false
is_taken claim.NoRegion = false
is_taken (claim.Taken place) = true
is_taken (claim.Waits on) = false
is_taken (claim.AxisDiffers at) = false
is_taken (claim.Unfit fault) = false
is_taken (claim.Held cell by) = false
is_taken (claim.NoState port) = false

-- the refusal, or where the gate stopped the router there, that
abbrev pub GivesWay : Routing → ClaimWhy → Tried → Routing → Type 0
GivesWay r why t s =
    (t.begun ≡ is_taken why)
    × ((t.answer ≡ attempt.Refused why) ⊎ ((t.answer ≡ attempt.Stopped) × Rose r.stops s.stops))

-- what the hand holds it held before, but for the number, which may be put back
abbrev pub HoldsOn : Owner → ℕ → Owner → Type 0
HoldsOn h number after = (h.held ≡ after.held) ⊎ (after ≡ putting h number)
