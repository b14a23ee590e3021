-- What nothing speaks against isn't refused.
use Rattle.std.proofs.Common.{◌≡◌, ℕ, refl, sym, ◌∙◌, subst, arith}
use Rattle.std.proofs.lemmas.Option.{same_Some, none-some, slice_get_within}
use Rattle.pauli_product.specs.Signed.{Signed}
use Rattle.source_model.specs.declared.Given.{Given}
use Rattle.source_model.specs.declared.Static.{Static}
use Rattle.source_model.specs.Circuits.{IsOutcomeOf}
use Rattle.patch_layout.specs.declared.plan.Plan.{Plan}
use Rattle.patch_layout.specs.declared.plan.Fault.{Fault}
use Rattle.patch_layout.specs.declared.plan.Fault.TheVariants as fault
use Rattle.patch_layout.specs.Certificate.{Case, Certified, Faulted}
use Rattle.board_core.specs.declared.board.ClaimWhy.{ClaimWhy}
use Rattle.board_core.specs.declared.board.ClaimWhy.TheVariants as claim
use Rattle.board_core.specs.declared.board.DeliverWhy.{DeliverWhy}
use Rattle.board_core.specs.declared.board.DeliverWhy.TheVariants as deliver
use Rattle.board_core.specs.declared.board.Differ.{Differ}
use Rattle.board_core.specs.declared.board.Differ.TheVariants as differ
use Rattle.board_core.specs.Books.{TakesRegion}
use Rattle.board_core.specs.Position.{Position}
use Rattle.board_core.specs.Causes.{ClaimRefusedBecause, DeliverRefusedBecause, IsClaimable, IsDeliverable, IsProduct, DiffersAt, case_for}
use Rattle.finish_run.proofs.Past.{not_both}

not_differs : (a : Signed) (at : Differ) → DiffersAt a a at → ⊥
not_differs a differ.Length d = d refl
not_differs a differ.Sign d = d.1 refl
not_differs a (differ.Qubit q) d = d.2.0 refl

not_faulted : (c : Case) (f : Fault) → Certified c → Faulted c f → ⊥
not_faulted c fault.Shape right f = f right.0.0.0.0
not_faulted c fault.Port right f = f.1 right.0.0.0.1
not_faulted c (fault.Cell k) right f = f.1.2 (right.0.0.1 k f.1.0)
not_faulted c (fault.Parent k) right f = f.1.2 (right.0.1 k f.1.0)
not_faulted c (fault.Touch k) right f = f.1.2 (right.1 k f.1.0)

same_product : (b : Position) (p : ℕ) (s t : Static) → IsProduct b p s → IsProduct b p t → s ≡ t
same_product b p s t e f = same_Some s t (sym e ∙ f)

pub claim_stands : (b : Position) (plan : Plan) (why : ClaimWhy) → IsClaimable b plan → ClaimRefusedBecause why b plan → ⊥
claim_stands b plan claim.NoProduct x r = let u = x.before.before.before.before.before in let l = slice_get_within b.job.products plan.number u.static u.product in omega (arith, r)
claim_stands b plan claim.NoRegion x r =
    let u = x.before.before.before.before.before in
    r.2 (subst (λ (s : Static). TakesRegion s.kind) (same_product b plan.number u.static r.0 u.product r.1) u.region)
claim_stands b plan (claim.Taken place) x r = none-some place (sym x.before.before.before.before.before.unclaimed ∙ r.3)
claim_stands b plan (claim.Waits on) x r = x.before.before.before.before.waits on r.1.0
claim_stands b plan (claim.AxisDiffers at) x r =
    let d = r.1 in
    let s : d.0 ≡ plan.axis = same_Some d.0 plan.axis (sym d.1 ∙ x.before.before.before.axis_of) in
    not_differs plan.axis at (subst (λ (a : Signed). DiffersAt a plan.axis at) s d.2)
claim_stands b plan (claim.Unfit f) x r =
    let u = x.before.before.before.before.before in
    let v = r.0.before.before in
    not_faulted (case_for b plan v.static) f (subst (λ (s : Static). Certified (case_for b plan s)) (same_product b plan.number u.static v.static u.product v.product) x.before.before.checked) r.1
claim_stands b plan (claim.Held cell by) x r = x.before.free cell by r.1.claimed r.1.held
claim_stands b plan (claim.NoState port) x r = x.stocked port r.1 r.2

pub deliver_stands : (b : Position) (p : ℕ) (g : Given) (why : DeliverWhy) → IsDeliverable b p g → DeliverRefusedBecause why b p g → ⊥
deliver_stands b p g deliver.NoProduct x r = let l = slice_get_within b.job.products p x.begun.static x.begun.product in omega (arith, r)
deliver_stands b p g deliver.Unclaimed x r =
    let region = subst (λ (s : Static). TakesRegion s.kind) (same_product b p r.0 x.begun.static r.1 x.begun.product) r.2 in
    not_both _ (x.begun.claimed region) r.3
deliver_stands b p g (deliver.Twice place) x r = none-some place (sym x.undone ∙ r.1)
deliver_stands b p g deliver.WrongKind x r =
    r.2 (subst (λ (s : Static). IsOutcomeOf s.kind g) (same_product b p x.begun.static r.0.static x.begun.product r.0.product) x.outcome)
deliver_stands b p g (deliver.Waits on) x r = x.ready r.3 on r.4.0
