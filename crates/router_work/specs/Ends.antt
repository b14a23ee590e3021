-- Why a worker ends.
use Rattle.std.specs.Prelude.{◌≡◌, ◌⊎◌, ℕ, ◌+◌, ◌*◌, ◌%◌, ◌≤◌, [], length}
use Rattle.std.specs.List.{Contains}
use Rattle.patch_base.specs.Outside.{Rose}
use Rattle.magic_pool.specs.Recount.{step_count}
use Rattle.patch_layout.specs.Grid.{HasStore}
use Rattle.board_core.specs.History.{steps}
use Rattle.board_core.specs.Position.{past}
use Rattle.board_core.specs.Causes.{ready}
use Rattle.grid_lock.specs.Passes.{Known}
use Rattle.number_share.specs.Hands.{IsSpent}
use Rattle.router_work.specs.Passing.{seen_board}
use Rattle.router_work.specs.Routing.{Routing}
use Rattle.router_work.specs.Tries.{IsBegun}
use Rattle.router_work.specs.declared.router.RouterEnd.{RouterEnd}
use Rattle.router_work.specs.declared.router.RouterEnd.TheVariants as router
use Rattle.router_work.specs.declared.maker.MakerEnd.{MakerEnd}
use Rattle.router_work.specs.declared.maker.MakerEnd.TheVariants as maker
use Rattle.router_work.specs.declared.attempt.Attempt.{Attempt}
use Rattle.router_work.specs.declared.attempt.Attempt.TheVariants as attempt

-- the turn was found held so many more times
abbrev pub MetMore : ℕ → Known → Known → Type 0
MetMore n p q = p.view.met + n ≤ q.view.met

-- the board answered so many more times
abbrev pub TurnedMore : ℕ → Known → Known → Type 0
TurnedMore n p q = p.view.turns + n ≤ q.view.turns

-- an attempt stops where its gate said so, and is busy after 2 ^ 20 answers Busy in a row; every other answer but out of memory
-- takes an answer of the board
abbrev pub AttemptEnds : Routing → Attempt → Routing → Type 0
AttemptEnds r attempt.Stopped s = Rose r.stops s.stops
AttemptEnds r attempt.Busy s = MetMore 1048576 r.pass s.pass
AttemptEnds r attempt.Memory s = Unit {0}
AttemptEnds r (attempt.Claimed place) s = TurnedMore 1 r.pass s.pass
AttemptEnds r (attempt.Settled place) s = TurnedMore 1 r.pass s.pass
AttemptEnds r (attempt.Taken place) s = TurnedMore 1 r.pass s.pass
AttemptEnds r (attempt.NotReady on) s = TurnedMore 1 r.pass s.pass
AttemptEnds r attempt.NoReady s = TurnedMore 1 r.pass s.pass
AttemptEnds r attempt.Blocked s = TurnedMore 1 r.pass s.pass
AttemptEnds r (attempt.Refused why) s = TurnedMore 1 r.pass s.pass

-- a router ends where its gate stopped it, its hand is spent and empty, the board answered 64 times for each product, or the
-- turn was held 2 ^ 20 times in a row
abbrev pub RouterEnds : RouterEnd → Routing → Routing → Type 0
RouterEnds router.Stopped r s = Rose r.stops s.stops
RouterEnds router.NoNumber r s = IsSpent s.hand × (s.hand.left ≡ [])
RouterEnds router.Tries r s = TurnedMore (64 * length r.given) r.pass s.pass
RouterEnds router.Busy r s = MetMore 1048576 r.pass s.pass
RouterEnds router.Memory r s = Unit {0}

-- each number that was added to the hand is of a product that is begun
abbrev pub LosesNone : Routing → Routing → Type 0
LosesNone r s = (n : ℕ) → Contains s.hand.held n → Contains r.hand.held n ⊎ IsBegun s.pass n

-- the factory is at a run's start, and as many of its states are ready as it stores
abbrev pub IsFull : Known → ℕ → Type 0
IsFull q f =
    (store : ℕ) × HasStore q.view.opened.job.grid f store
    × (step_count f (steps (past (seen_board q))) % 11 ≡ 0) × (length (ready (seen_board q) f) ≡ store)

-- a maker ends where its factory is full, after 64 refusals at least, or the turn was held 2 ^ 20 times in a row
abbrev pub MakerEnds : MakerEnd → ℕ → Known → Known → Type 0
MakerEnds maker.Stocked f p q = TurnedMore 64 p q × IsFull q f
MakerEnds maker.Busy f p q = MetMore 1048576 p q
MakerEnds maker.Memory f p q = Unit {0}
