-- What a board answers at its history: what is accepted there, and why another call is refused. Nothing that is allowed is
-- refused.
use Rattle.std.specs.Prelude.{◌≡◌, ℕ, ◌<◌, ◌≤◌, length, Option, None, Some, is_some}
use Rattle.pauli_product.specs.Signed.{Signed, IsNotIdentity}
use Rattle.source_model.specs.declared.Given.{Given}
use Rattle.patch_layout.specs.declared.plan.Plan.{Plan}
use Rattle.patch_layout.specs.declared.look.Look.{Look}
use Rattle.patch_layout.specs.Certificate.{Certified}
use Rattle.patch_layout.specs.Case.{case_of}
use Rattle.magic_pool.specs.declared.Stepped.{Stepped}
use Rattle.board_core.specs.declared.Entry.{Entry}
use Rattle.board_core.specs.declared.Entry.TheVariants.{Release, Step}
use Rattle.board_core.specs.declared.board.Claimed.{Claimed}
use Rattle.board_core.specs.declared.board.ClaimWhy.{ClaimWhy}
use Rattle.board_core.specs.declared.board.DeliverWhy.{DeliverWhy}
use Rattle.board_core.specs.declared.board.ReleaseWhy.{ReleaseWhy}
use Rattle.board_core.specs.declared.board.BoardStepWhy.{BoardStepWhy}
use Rattle.board_core.specs.History.{done_place}
use Rattle.board_core.specs.Legal.{Allowed, AxisOf}
use Rattle.board_core.specs.View.{LeastWait, claimed_axis}
use Rattle.board_core.specs.Shows.{Shows}
use Rattle.board_core.specs.Position.{Position, past}
use Rattle.board_core.specs.Causes.{ClaimRefusedBecause, DeliverRefusedBecause, EntryOf, IsClaimable, IsDeliverable, ReleaseRefusedBecause, StepRefusedBecause, claim_of, stepped_by}

-- ---- a claim
pub record AcceptsClaim (b : Position) (plan : Plan) (c : Claimed) : Type 0 where
  pub claimable : IsClaimable b plan
  pub allowed : Allowed b.job (past b) (claim_of plan c.state)
  pub place : c.place ≡ length b.history

pub record RefusesClaim (b : Position) (plan : Plan) (why : ClaimWhy) : Type 0 where
  pub because : ClaimRefusedBecause why b plan
  pub forbidden : (state : Option ℕ) → Allowed b.job (past b) (claim_of plan state) →
      Certified (case_of b.job.grid (is_some plan.port) plan) → ⊥

-- ---- a delivery or a settling
pub record AcceptsOutcome (b : Position) (p : ℕ) (given : Given) (e : Entry) (place : ℕ) : Type 0 where
  pub deliverable : IsDeliverable b p given
  pub entry : EntryOf p given e
  pub allowed : Allowed b.job (past b) e
  pub place_is : place ≡ length b.history

pub record RefusesOutcome (b : Position) (p : ℕ) (given : Given) (why : DeliverWhy) : Type 0 where
  pub because : DeliverRefusedBecause why b p given
  pub forbidden : (e : Entry) → EntryOf p given e → Allowed b.job (past b) e → ⊥

-- ---- a release
pub record AcceptsRelease (b : Position) (p place : ℕ) : Type 0 where
  pub allowed : Allowed b.job (past b) (Release p)
  pub place_is : place ≡ length b.history

pub record RefusesRelease (b : Position) (p : ℕ) (why : ReleaseWhy) : Type 0 where
  pub because : ReleaseRefusedBecause why b p
  pub forbidden : Allowed b.job (past b) (Release p) → ⊥

-- ---- a factory's step
pub record AcceptsStep (b : Position) (f : ℕ) (r : ℕ × Stepped) : Type 0 where
  pub allowed : Allowed b.job (past b) (Step f)
  pub place : r.0 ≡ length b.history
  pub stepped : r.1 ≡ stepped_by b f

pub record RefusesStep (b : Position) (f : ℕ) (why : BoardStepWhy) : Type 0 where
  pub because : StepRefusedBecause why b f
  pub forbidden : Allowed b.job (past b) (Step f) → ⊥

-- ---- a look
-- the look shows the product at the history, with an axis other than I: where it isn't done and waits on none its axis in
-- source order, and from its claim on the axis of the claim
pub record ShowsProduct (b : Position) (p : ℕ) (look : Look) : Type 0 where
  pub shown : Shows b p look
  pub letter : IsNotIdentity look.axis
  pub source : done_place (past b) p ≡ None → look.waits ≡ None →
      AxisOf b.job (past b) p look.axis
  pub stays : (axis : Signed) → claimed_axis (past b) p ≡ Some axis →
      done_place (past b) p ≡ None → look.axis ≡ axis

-- there is no such product, and the look is as it was
pub record ShowsNothing (b : Position) (p : ℕ) (before look : Look) : Type 0 where
  pub no_product : length b.job.products ≤ p
  pub unchanged : look ≡ before

-- ---- what a product waits on
abbrev pub HasNoProduct : Position → ℕ → Type 0
HasNoProduct b p = length b.job.products ≤ p

-- the product is there, and this is the least earlier one that doesn't commute with it and isn't done, if there is one
abbrev pub WaitsFor : Position → ℕ → Option ℕ → Type 0
WaitsFor b p on = (p < length b.job.products) × LeastWait b.job.products (past b) p on
