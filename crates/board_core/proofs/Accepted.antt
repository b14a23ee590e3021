-- What is refused isn't allowed: no cause holds of an entry that is allowed.
use Rattle.std.proofs.Common.{◌≡◌, ℕ, inl, inr, Bool, List, [], Option, Some, None, is_some, IsSome, refl, ap, sym, ◌∙◌, arith, subst}
use Rattle.std.proofs.lemmas.Bool.{true≢false}
use Rattle.std.proofs.lemmas.Option.{same_Some, none-some, slice_get_within}
use Rattle.pauli_product.specs.Signed.{Signed}
use Rattle.source_model.specs.declared.Given.{Given}
use Rattle.source_model.specs.declared.Given.TheVariants as given
use Rattle.source_model.specs.declared.Kind.{Kind}
use Rattle.source_model.specs.declared.Kind.TheVariants as kind
use Rattle.source_model.specs.declared.Static.{Static}
use Rattle.source_model.specs.Circuits.{IsOutcomeOf}
use Rattle.patch_layout.specs.declared.plan.Plan.{Plan}
use Rattle.patch_layout.specs.declared.plan.Fault.{Fault}
use Rattle.patch_layout.specs.declared.plan.Fault.TheVariants as fault
use Rattle.patch_layout.specs.Certificate.{Case, Certified, Faulted}
use Rattle.patch_layout.specs.Case.{case_of}
use Rattle.magic_pool.specs.Recount.{first_of_list}
use Rattle.magic_pool.specs.declared.Maker.{Maker}
use Rattle.board_core.specs.declared.Entry.{Entry}
use Rattle.board_core.specs.declared.Entry.TheVariants.{Deliver, Release, Settle}
use Rattle.board_core.specs.declared.Entry.TheVariants as entry
use Rattle.board_core.specs.declared.board.Differ.{Differ}
use Rattle.board_core.specs.declared.board.Differ.TheVariants as differ
use Rattle.board_core.specs.declared.board.ClaimWhy.{ClaimWhy}
use Rattle.board_core.specs.declared.board.ClaimWhy.TheVariants as claim
use Rattle.board_core.specs.declared.board.DeliverWhy.{DeliverWhy}
use Rattle.board_core.specs.declared.board.DeliverWhy.TheVariants as deliver
use Rattle.board_core.specs.declared.board.ReleaseWhy.{ReleaseWhy}
use Rattle.board_core.specs.declared.board.ReleaseWhy.TheVariants as release
use Rattle.board_core.specs.declared.board.BoardStepWhy.{BoardStepWhy}
use Rattle.board_core.specs.declared.board.BoardStepWhy.TheVariants as step
use Rattle.board_core.specs.History.{History, delivered, claim_place, done_place}
use Rattle.board_core.specs.Legal.{BoardJob, Allowed, IsKind, TakesState, FlipOf, Ready}
use Rattle.board_core.specs.View.{WaitsOn}
use Rattle.board_core.specs.Position.{Position, past, IsLegal}
use Rattle.board_core.specs.Books.{TakesRegion, HasMakersOf}
use Rattle.board_core.specs.Causes.{is_rotation, IsProduct, DiffersAt, ClaimRefusedBecause, DeliverRefusedBecause, ReleaseRefusedBecause, StepRefusedBecause, EntryOf, claim_of, ready}
use Rattle.board_core.proofs.Releasing.{release_within}
use Rattle.board_core.proofs.Claiming.{one_product}

none_is : {A : Type 0} (o : Option A) → IsSome o → o ≡ None → ⊥
none_is o s n = true≢false (sym s ∙ ap is_some n)

-- ---- a claim
state_region : (j : BoardJob) (h : History) (k : Kind) (through state : Option ℕ) → TakesState j h k through state → TakesRegion k
state_region j h kind.Rotation through state t = tt
state_region j h (kind.Measure bit) through state t = tt
state_region j h (kind.Settle first size value) through state t = t

state_port : (j : BoardJob) (h : History) (k : Kind) (through state : Option ℕ) → TakesState j h k through state → is_some through ≡ is_rotation k
state_port j h kind.Rotation through state t = ap is_some t.2
state_port j h (kind.Measure bit) through state t = ap is_some t.0
state_port j h (kind.Settle first size value) through state t = absurd t

state_there : (b : Position) (k : Kind) (through state : Option ℕ) (port : ℕ) → TakesState b.job (past b) k through state → through ≡ Some port → ready b port ≡ [] → ⊥
state_there b kind.Rotation through state port t e none =
    let same = same_Some t.0 port (sym t.2 ∙ e) in
    none-some t.1 (sym (ap first_of_list none) ∙ ap (λ (f : ℕ). first_of_list (ready b f)) (sym same) ∙ t.4)
state_there b (kind.Measure bit) through state port t e none = none-some port (sym t.0 ∙ e)
state_there b (kind.Settle first size value) through state port t e none = t

not_differs : (a : Signed) (at : Differ) → DiffersAt a a at → ⊥
not_differs a differ.Length d = d refl
not_differs a differ.Sign d = d.1 refl
not_differs a (differ.Qubit q) d = d.2.0 refl

not_faulted : (c : Case) (f : Fault) → Certified c → Faulted c f → ⊥
not_faulted c fault.Shape cert f = f cert.0.0.0.0
not_faulted c fault.Port cert f = f.1 cert.0.0.0.1
not_faulted c (fault.Cell k) cert f = f.1.2 (cert.0.0.1 k f.1.0)
not_faulted c (fault.Parent k) cert f = f.1.2 (cert.0.1 k f.1.0)
not_faulted c (fault.Touch k) cert f = f.1.2 (cert.1 k f.1.0)

not_waiting : (b : Position) (p on : ℕ) → Ready b.job (past b) p → WaitsOn b.job.products (past b) p on → ⊥
not_waiting b p on r w = none_is (done_place (past b) on) (r on w.1 w.2 w.0 w.3 w.4 w.5) w.6

pub claim_accepted : (b : Position) (plan : Plan) (state : Option ℕ) (why : ClaimWhy) → Allowed b.job (past b) (claim_of plan state) → Certified (case_of b.job.grid (is_some plan.port) plan) → ClaimRefusedBecause why b plan → ⊥
claim_accepted b plan state claim.NoProduct a cert r = let l = slice_get_within b.job.products plan.number a.product.0 a.product.1 in omega (arith, r)
claim_accepted b plan state claim.NoRegion a cert r =
    r.2 (subst (λ (s : Static). TakesRegion s.kind) (one_product b plan.number a.product.0 r.0 a.product.1 r.1) (state_region b.job (past b) a.product.0.kind plan.port state a.product.2))
claim_accepted b plan state (claim.Taken place) a cert r = none-some place (sym a.unclaimed ∙ r.3)
claim_accepted b plan state (claim.Waits on) a cert r = not_waiting b plan.number on a.ready r.1.0
claim_accepted b plan state (claim.AxisDiffers at) a cert r =
    let same = same_Some r.1.0 plan.axis (sym r.1.1 ∙ a.axis_of) in
    not_differs plan.axis at (subst (λ (x : Signed). DiffersAt x plan.axis at) same r.1.2)
claim_accepted b plan state (claim.Unfit f) a cert r =
    let s = r.0.before.before.static in
    let same = one_product b plan.number a.product.0 s a.product.1 r.0.before.before.product in
    let rotation : is_some plan.port ≡ is_rotation s.kind = state_port b.job (past b) a.product.0.kind plan.port state a.product.2 ∙ ap (λ (x : Static). is_rotation x.kind) same in
    not_faulted (case_of b.job.grid (is_rotation s.kind) plan) f (subst (λ (x : Bool). Certified (case_of b.job.grid x plan)) rotation cert) r.1
claim_accepted b plan state (claim.Held cell by) a cert r = a.free cell by r.1.claimed r.1.held
claim_accepted b plan state (claim.NoState port) a cert r = state_there b a.product.0.kind plan.port state port a.product.2 r.1 r.2

-- ---- a delivery or a settling
kind_outcome : (k : Kind) (g : Given) → IsKind k g → IsOutcomeOf k g
kind_outcome kind.Rotation (given.Rotation raw x) i = tt
kind_outcome kind.Rotation (given.Measure raw) i = i
kind_outcome kind.Rotation given.Settled i = i
kind_outcome (kind.Measure bit) (given.Rotation raw x) i = i
kind_outcome (kind.Measure bit) (given.Measure raw) i = tt
kind_outcome (kind.Measure bit) given.Settled i = i
kind_outcome (kind.Settle first size value) (given.Rotation raw x) i = absurd i
kind_outcome (kind.Settle first size value) (given.Measure raw) i = absurd i
kind_outcome (kind.Settle first size value) given.Settled i = absurd i

delivery_accepted : (b : Position) (p : ℕ) (g : Given) (why : DeliverWhy) → (g ≡ given.Settled → ⊥) → Allowed b.job (past b) (Deliver p g) → DeliverRefusedBecause why b p g → ⊥
delivery_accepted b p g deliver.NoProduct ne a r = let l = slice_get_within b.job.products p a.2.0 a.2.1 in omega (arith, r)
delivery_accepted b p g deliver.Unclaimed ne a r = none_is (claim_place (past b) p) a.0 r.3
delivery_accepted b p g (deliver.Twice place) ne a r = none-some place (sym a.1 ∙ r.1)
delivery_accepted b p g deliver.WrongKind ne a r =
    r.2 (subst (λ (s : Static). IsOutcomeOf s.kind g) (one_product b p a.2.0 r.0.static a.2.1 r.0.product) (kind_outcome a.2.0.kind g a.2.2))
delivery_accepted b p g (deliver.Waits on) ne a r = ne r.3

settled_region : (b : Position) (p : ℕ) (flip : Bool) (s : Static) → FlipOf b.job (past b) p flip → IsProduct b p s → TakesRegion s.kind → ⊥
settled_region b p flip s f e t = subst TakesRegion (ap (λ (x : Static). x.kind) (one_product b p s f.0 e f.4) ∙ f.5) t

settled_outcome : (b : Position) (p : ℕ) (flip : Bool) (s : Static) → FlipOf b.job (past b) p flip → IsProduct b p s → IsOutcomeOf s.kind given.Settled
settled_outcome b p flip s f e = subst (λ (k : Kind). IsOutcomeOf k given.Settled) (sym (ap (λ (x : Static). x.kind) (one_product b p s f.0 e f.4) ∙ f.5)) tt

settling_accepted : (b : Position) (p : ℕ) (flip : Bool) (why : DeliverWhy) → Allowed b.job (past b) (Settle p flip) → DeliverRefusedBecause why b p given.Settled → ⊥
settling_accepted b p flip deliver.NoProduct a r = let l = slice_get_within b.job.products p a.2.0 a.2.4 in omega (arith, r)
settling_accepted b p flip deliver.Unclaimed a r = settled_region b p flip r.0 a.2 r.1 r.2
settling_accepted b p flip (deliver.Twice place) a r = none-some place (sym a.0 ∙ r.1)
settling_accepted b p flip deliver.WrongKind a r = r.2 (settled_outcome b p flip r.0.static a.2 r.0.product)
settling_accepted b p flip (deliver.Waits on) a r = not_waiting b p on a.1 r.4.0

pub deliver_accepted : (b : Position) (p : ℕ) (g : Given) (e : Entry) (why : DeliverWhy) → EntryOf p g e → Allowed b.job (past b) e → DeliverRefusedBecause why b p g → ⊥
deliver_accepted b p (given.Rotation raw x) e why is a r = delivery_accepted b p (given.Rotation raw x) why (never raw x) (subst (Allowed b.job (past b)) is a) r
  where
    never : (raw x : Bool) → given.Rotation raw x ≡ given.Settled → ⊥
    never raw x s = cc
deliver_accepted b p (given.Measure raw) e why is a r = delivery_accepted b p (given.Measure raw) why (never raw) (subst (Allowed b.job (past b)) is a) r
  where
    never : (raw : Bool) → given.Measure raw ≡ given.Settled → ⊥
    never raw s = cc
deliver_accepted b p given.Settled e why is a r = settling_accepted b p is.0 why (subst (Allowed b.job (past b)) is.1 a) r

-- ---- a release
pub release_accepted : (b : Position) (p : ℕ) (why : ReleaseWhy) → IsLegal b → Allowed b.job (past b) (Release p) → ReleaseRefusedBecause why b p → ⊥
release_accepted b p release.NoProduct legal a r = let l = release_within b.job (past b) p legal.legal a in omega (arith, r)
release_accepted b p release.Undelivered legal a r = none_is (delivered (past b) p) a.0 r.1
release_accepted b p (release.Twice place) legal a r = none-some place (sym a.1 ∙ r.1)

-- ---- a factory's step
pub step_accepted : (b : Position) (f : ℕ) (makers : List Maker) (why : BoardStepWhy) → HasMakersOf b.job.grid makers → Allowed b.job (past b) (entry.Step f) → StepRefusedBecause why b f → ⊥
step_accepted b f makers step.NoFactory has a r = r a.1.0 (a.1.1, a.0, a.1.2)
step_accepted b f makers (step.Stocked n) has a r =
    let here = ((has f a.0).0 a.1).0 in
    let there = ((has f n).0 r.0).0 in
    elim a.2 [ inl x ↦ x r.1 | inr x ↦ (let m = r.2 in omega arith) ]
