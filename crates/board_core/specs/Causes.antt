-- Why a board refuses a call. Causes are tried in an order, and each one comes exactly where it holds and none before it does.
use Rattle.std.specs.Prelude.{◌≡◌, ◌≢◌, ℕ, Bool, true, false, ◌+◌, ◌<◌, ◌≤◌, ◌%◌, slice_get, List, [], length, Option, Some, None, IsSome}
use Rattle.pauli_product.specs.declared.Letter.{Letter}
use Rattle.pauli_product.specs.Signed.{Signed}
use Rattle.source_model.specs.declared.Given.{Given}
use Rattle.source_model.specs.declared.Given.TheVariants as given
use Rattle.source_model.specs.declared.Kind.{Kind}
use Rattle.source_model.specs.declared.Kind.TheVariants as kind
use Rattle.source_model.specs.declared.Static.{Static}
use Rattle.source_model.specs.Circuits.{IsOutcomeOf}
use Rattle.patch_layout.specs.Grid.{IsPort, HasStore}
use Rattle.patch_layout.specs.declared.plan.Plan.{Plan}
use Rattle.patch_layout.specs.Certificate.{Checked, Certified, Case}
use Rattle.patch_layout.specs.Case.{case_of}
use Rattle.magic_pool.specs.declared.Stepped.{Stepped}
use Rattle.magic_pool.specs.Recount.{ready_of, step_count, makers_of}
use Rattle.magic_pool.specs.Pooled.{outcome_of}
use Rattle.board_core.specs.declared.board.ClaimWhy.{ClaimWhy}
use Rattle.board_core.specs.declared.board.ClaimWhy.TheVariants as claim
use Rattle.board_core.specs.declared.board.DeliverWhy.{DeliverWhy}
use Rattle.board_core.specs.declared.board.DeliverWhy.TheVariants as deliver
use Rattle.board_core.specs.declared.board.ReleaseWhy.{ReleaseWhy}
use Rattle.board_core.specs.declared.board.ReleaseWhy.TheVariants as release
use Rattle.board_core.specs.declared.board.BoardStepWhy.{BoardStepWhy}
use Rattle.board_core.specs.declared.board.BoardStepWhy.TheVariants as step
use Rattle.board_core.specs.declared.board.Differ.{Differ}
use Rattle.board_core.specs.declared.board.Differ.TheVariants as differ
use Rattle.board_core.specs.declared.Entry.{Entry}
use Rattle.board_core.specs.declared.Entry.TheVariants.{Claim, Deliver, Settle}
use Rattle.board_core.specs.History.{claim_place, done_place, release_place, delivered, steps, taken_states}
use Rattle.board_core.specs.Legal.{AxisOf, ClaimCell, Holds}
use Rattle.board_core.specs.View.{LeastWait}
use Rattle.board_core.specs.Position.{Position, past}
use Rattle.board_core.specs.Books.{TakesRegion}

abbrev pub is_rotation : Kind → Bool
is_rotation kind.Rotation = true
is_rotation (kind.Measure bit) = false
is_rotation (kind.Settle first size value) = false

abbrev pub IsProduct : Position → ℕ → Static → Type 0
IsProduct b p s = slice_get b.job.products p ≡ Some s

-- the first place at which two lists of letters differ
abbrev pub FirstOther : List Letter → List Letter → ℕ → Type 0
FirstOther a c q = (slice_get a q ≢ slice_get c q) × ((r : ℕ) → r < q → slice_get a r ≡ slice_get c r)

-- the first difference of two axes, in the order length, sign, least qubit
abbrev pub DiffersAt : Signed → Signed → Differ → Type 0
DiffersAt a c differ.Length = length a.letters ≢ length c.letters
DiffersAt a c differ.Sign = (length a.letters ≡ length c.letters) × (a.sign ≢ c.sign)
DiffersAt a c (differ.Qubit q) =
    (length a.letters ≡ length c.letters) × (a.sign ≡ c.sign) × FirstOther a.letters c.letters q

-- ---- a claim, up to each of its parts
-- the product is a rotation or a measurement and has no claim
pub record Unclaimed (b : Position) (plan : Plan) : Type 0 where
  pub static : Static
  pub product : IsProduct b plan.number static
  pub region : TakesRegion static.kind
  pub unclaimed : claim_place (past b) plan.number ≡ None

-- it waits on none
pub record Waiting (b : Position) (plan : Plan) : Type 0 where
  pub before : Unclaimed b plan
  pub waits : LeastWait b.job.products (past b) plan.number None

-- the plan has its axis
pub record HasAxis (b : Position) (plan : Plan) : Type 0 where
  pub before : Waiting b plan
  pub axis_of : AxisOf b.job (past b) plan.number plan.axis

abbrev pub case_for : Position → Plan → Static → Case
case_for b plan s = case_of b.job.grid (is_rotation s.kind) plan

-- the plan's certificate is right
pub record Fits (b : Position) (plan : Plan) : Type 0 where
  pub before : HasAxis b plan
  pub checked : Certified (case_for b plan before.before.before.static)

-- none of its cells is held
pub record IsFree (b : Position) (plan : Plan) : Type 0 where
  pub before : Fits b plan
  pub free : (c q : ℕ) → ClaimCell b.job.grid plan.axis plan.port plan.cells c → Holds b.job.grid (past b) q c → ⊥

-- the least claim cell that a product holds, and that product
pub record LeastHeld (b : Position) (plan : Plan) (cell by : ℕ) : Type 0 where
  pub claimed : ClaimCell b.job.grid plan.axis plan.port plan.cells cell
  pub held : Holds b.job.grid (past b) by cell
  pub least : (c q : ℕ) → c < cell → ClaimCell b.job.grid plan.axis plan.port plan.cells c → Holds b.job.grid (past b) q c → ⊥

abbrev pub ready : Position → ℕ → List ℕ
ready b f = ready_of b.job.fails (steps (past b)) (taken_states (past b)) f

abbrev pub ClaimRefusedBecause : ClaimWhy → Position → Plan → Type 0
ClaimRefusedBecause claim.NoProduct b plan = length b.job.products ≤ plan.number
ClaimRefusedBecause claim.NoRegion b plan = (s : Static) × IsProduct b plan.number s × (TakesRegion s.kind → ⊥)
ClaimRefusedBecause (claim.Taken place) b plan =
    (s : Static) × IsProduct b plan.number s × TakesRegion s.kind × (claim_place (past b) plan.number ≡ Some place)
ClaimRefusedBecause (claim.Waits on) b plan = Unclaimed b plan × LeastWait b.job.products (past b) plan.number (Some on)
ClaimRefusedBecause (claim.AxisDiffers at) b plan =
    Waiting b plan × ((axis : Signed) × AxisOf b.job (past b) plan.number axis × DiffersAt axis plan.axis at)
ClaimRefusedBecause (claim.Unfit fault) b plan = (has : HasAxis b plan) × Checked (case_for b plan has.before.before.static) (Some fault)
ClaimRefusedBecause (claim.Held cell by) b plan = Fits b plan × LeastHeld b plan cell by
ClaimRefusedBecause (claim.NoState port) b plan = IsFree b plan × (plan.port ≡ Some port) × (ready b port ≡ [])

-- every part of a claim holds: a port that is named has a ready state
pub record IsClaimable (b : Position) (plan : Plan) : Type 0 where
  pub before : IsFree b plan
  pub stocked : (f : ℕ) → plan.port ≡ Some f → ready b f ≢ []

-- the entry that a plan asks for, with the state that it takes
abbrev pub claim_of : Plan → Option ℕ → Entry
claim_of plan state = Claim plan.number plan.axis plan.port state plan.cells

-- ---- a delivery or a settling
-- the entry that an outcome asks for
abbrev pub EntryOf : ℕ → Given → Entry → Type 0
EntryOf p (given.Rotation raw x) e = e ≡ Deliver p (given.Rotation raw x)
EntryOf p (given.Measure raw) e = e ≡ Deliver p (given.Measure raw)
EntryOf p given.Settled e = (flip : Bool) × (e ≡ Settle p flip)

-- the product is claimed, if it takes a region
pub record IsBegun (b : Position) (p : ℕ) : Type 0 where
  pub static : Static
  pub product : IsProduct b p static
  pub claimed : TakesRegion static.kind → IsSome (claim_place (past b) p)

abbrev pub DeliverRefusedBecause : DeliverWhy → Position → ℕ → Given → Type 0
DeliverRefusedBecause deliver.NoProduct b p g = length b.job.products ≤ p
DeliverRefusedBecause deliver.Unclaimed b p g = (s : Static) × IsProduct b p s × TakesRegion s.kind × (claim_place (past b) p ≡ None)
DeliverRefusedBecause (deliver.Twice place) b p g = IsBegun b p × (done_place (past b) p ≡ Some place)
DeliverRefusedBecause deliver.WrongKind b p g =
    (begun : IsBegun b p) × (done_place (past b) p ≡ None) × (IsOutcomeOf begun.static.kind g → ⊥)
DeliverRefusedBecause (deliver.Waits on) b p g =
    (begun : IsBegun b p) × (done_place (past b) p ≡ None) × IsOutcomeOf begun.static.kind g × (g ≡ given.Settled)
    × LeastWait b.job.products (past b) p (Some on)

-- every part of a delivery or a settling holds
pub record IsDeliverable (b : Position) (p : ℕ) (g : Given) : Type 0 where
  pub begun : IsBegun b p
  pub undone : done_place (past b) p ≡ None
  pub outcome : IsOutcomeOf begun.static.kind g
  pub ready : g ≡ given.Settled → LeastWait b.job.products (past b) p None

-- ---- a release
abbrev pub ReleaseRefusedBecause : ReleaseWhy → Position → ℕ → Type 0
ReleaseRefusedBecause release.NoProduct b p = length b.job.products ≤ p
ReleaseRefusedBecause release.Undelivered b p = (p < length b.job.products) × (delivered (past b) p ≡ None)
ReleaseRefusedBecause (release.Twice place) b p = IsSome (delivered (past b) p) × (release_place (past b) p ≡ Some place)

-- ---- a factory's step
-- a run would begin with a full store: the number is that of the store, and as many states are ready
abbrev pub StepRefusedBecause : BoardStepWhy → Position → ℕ → Type 0
StepRefusedBecause step.NoFactory b f = (c : ℕ) → IsPort b.job.grid f c → ⊥
StepRefusedBecause (step.Stocked n) b f =
    HasStore b.job.grid f n × (step_count f (steps (past b)) % 11 ≡ 0) × (length (ready b f) ≡ n)

-- what an accepted step does
abbrev pub stepped_by : Position → ℕ → Stepped
stepped_by b f = outcome_of b.job.fails f (step_count f (steps (past b)) + 1) (length (makers_of b.job.fails (steps (past b))))
