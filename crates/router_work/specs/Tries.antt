-- What an attempt answers.
use Rattle.std.specs.Prelude.{◌≡◌, ◌⊎◌, ◌≤◌, ℕ, Bool, slice_get, List, Option, None, Some, IsSome}
use Rattle.pauli_product.specs.Signed.{Signed}
use Rattle.source_model.specs.declared.Given.{Given}
use Rattle.source_model.specs.declared.Given.TheVariants as outcome
use Rattle.patch_layout.specs.declared.look.Look.{Look}
use Rattle.patch_layout.specs.declared.plan.Plan.{Plan}
use Rattle.region_plan.specs.declared.answer.Planned.{Planned}
use Rattle.region_plan.specs.declared.answer.Planned.TheVariants as planned
use Rattle.region_plan.specs.Answer.{Answers, LeastJoined}
use Rattle.board_core.specs.declared.Entry.TheVariants.{Claim, Settle}
use Rattle.board_core.specs.declared.Noted.{Noted}
use Rattle.board_core.specs.History.{claim_place, delivered, done_place, release_place}
use Rattle.board_core.specs.Position.{past, with_history, note}
use Rattle.board_core.specs.View.{LeastWait}
use Rattle.grid_lock.specs.Views.{Extends, Continues}
use Rattle.grid_lock.specs.Passes.{Known}
use Rattle.grid_lock.specs.Answers.{RefusesClaim, ShowsProduct, WaitsFor}
use Rattle.router_work.specs.Passing.{seen_board}
use Rattle.router_work.specs.declared.attempt.Attempt.{Attempt}
use Rattle.router_work.specs.declared.attempt.Attempt.TheVariants as attempt

-- the look shows the product at a history that continues what the pass knew before, and that it has seen afterwards
pub record LooksBetween (p q : Known) (number : ℕ) (look : Look) : Type 0 where
  pub log : List Noted
  pub continues : Continues p.view log
  pub seen : Extends q.view.seen log
  pub shows : ShowsProduct (with_history p.view.opened log) number look

-- the planner answers so for such a look
abbrev pub IsPlanned : Known → Known → ℕ → Planned → Type 0
IsPlanned p q number answer =
    (look : Look) × LooksBetween p q number look
    × Answers (LeastJoined p.view.opened.job.grid look) p.view.opened.job.grid look answer

-- at a history that continues what the pass knew before, and that it has seen afterwards, the product has no claim and waits
-- on this one
pub record WaitsBetween (p q : Known) (number on : ℕ) : Type 0 where
  pub log : List Noted
  pub continues : Continues p.view log
  pub seen : Extends q.view.seen log
  pub unclaimed : claim_place (past (with_history p.view.opened log)) number ≡ None
  pub waits : WaitsFor (with_history p.view.opened log) number (Some on)

-- the pass's own claim of the product stands at this place of what it has seen
abbrev pub ClaimsAt : Known → ℕ → ℕ → Type 0
ClaimsAt q number place =
    (axis : Signed) × (port state : Option ℕ) × (cells : List ℕ)
    × (slice_get q.view.seen place ≡ Some (note q.view.number (Claim number axis port state cells)))

-- and that claim came after such a look
abbrev pub LookedBefore : Known → Known → ℕ → ℕ → Type 0
LookedBefore p q number place = (look : Look) × LooksBetween p q number look × (look.length ≤ place)

-- the pass's own settling of the product stands at this place
abbrev pub SettlesAt : Known → ℕ → ℕ → Type 0
SettlesAt q number place =
    (flip : Bool) × (slice_get q.view.seen place ≡ Some (note q.view.number (Settle number flip)))

-- the product is delivered and released in what the pass has seen
abbrev pub IsCarriedOut : Known → ℕ → Type 0
IsCarriedOut q number =
    IsSome (delivered (past (seen_board q)) number) × IsSome (release_place (past (seen_board q)) number)

-- the product is claimed or done in what the pass has seen
abbrev pub IsBegun : Known → ℕ → Type 0
IsBegun q number =
    IsSome (claim_place (past (seen_board q)) number) ⊎ IsSome (done_place (past (seen_board q)) number)

-- the product is settled, and takes no region
abbrev pub IsSettled : List Given → ℕ → Type 0
IsSettled given number = slice_get given number ≡ Some outcome.Settled

-- a product with a region is looked at, planned, claimed, delivered and released; a settled one is settled, without a look
abbrev pub Answered : List Given → Known → ℕ → Attempt → Known → Type 0
Answered given p n (attempt.Claimed place) q =
    ClaimsAt q n place × IsCarriedOut q n × LookedBefore p q n place
Answered given p n (attempt.Settled place) q = IsSettled given n × SettlesAt q n place
Answered given p n (attempt.Taken place) q =
    (IsSettled given n × (done_place (past (seen_board q)) n ≡ Some place)) ⊎ IsPlanned p q n (planned.Taken place)
Answered given p n (attempt.NotReady on) q =
    (IsSettled given n × LeastWait q.view.opened.job.products (past (seen_board q)) n (Some on))
    ⊎ WaitsBetween p q n on
Answered given p n attempt.NoReady q = IsPlanned p q n planned.NoReady
Answered given p n attempt.Blocked q = IsPlanned p q n planned.Blocked
Answered given p n (attempt.Refused why) q =
    (plan : Plan) × IsPlanned p q n (planned.Region plan) × RefusesClaim (seen_board q) plan why
Answered given p n attempt.Stopped q = Unit {0}
Answered given p n attempt.Busy q = Unit {0}
Answered given p n attempt.Memory q = Unit {0}
