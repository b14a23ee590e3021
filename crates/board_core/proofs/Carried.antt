-- What the laws over legal histories say of a board after a call.
use Rattle.std.proofs.Common.{◌≡◌, ℕ, Bool, List, [], ◌∷◌, ◌++◌, length, Option, Some, None, is_some, slice_get, refl, ap, sym, ◌∙◌, subst, eq-eqb, if◌then◌else◌}
use Rattle.pauli_product.specs.Signed.{Signed}
use Rattle.source_model.specs.declared.Given.{Given}
use Rattle.source_model.specs.SourceRun.{axes}
use Rattle.source_model.specs.Statics.{static_items}
use Rattle.patch_layout.specs.declared.plan.Plan.{Plan}
use Rattle.patch_layout.specs.declared.look.Look.{Look}
use Rattle.board_core.specs.declared.Entry.{Entry}
use Rattle.board_core.specs.declared.Entry.TheVariants.{Claim}
use Rattle.board_core.specs.History.{History, claim_place, done_place}
use Rattle.board_core.specs.Legal.{BoardJob, AxisOf}
use Rattle.board_core.specs.View.{claimed_axis, LeastWait}
use Rattle.board_core.specs.Orders.{InSourceOrderUpToSwaps}
use Rattle.board_core.specs.Laws.{Agrees}
use Rattle.board_core.specs.Position.{Position, past, with_entry, IsLegal}
use Rattle.board_core.specs.Causes.{claim_of, IsClaimable}
use Rattle.board_core.specs.Shows.{Shows}
use Rattle.board_core.proofs.Places.{or_else, claimed-append, claimed_place, none_of}
use Rattle.board_core.proofs.LegalOrder.{legal_claims, legal_order}
use Rattle.board_core.proofs.Waits.{ready_of}
use Rattle.board_core.proofs.Frame.{axis_stays, frame_is_source}
use Rattle.board_core.proofs.KeptLegal.{entries_push}

claimed_new : (h : History) (p : ℕ) (axis : Signed) (through state : Option ℕ) (cells : List ℕ) → claim_place h p ≡ None → claimed_axis (h ++ Claim p axis through state cells ∷ []) p ≡ Some axis
claimed_new h p axis through state cells n =
    claimed-append h (Claim p axis through state cells ∷ []) p
    ∙ ap (λ (o : Option Signed). or_else o (claimed_axis (Claim p axis through state cells ∷ []) p)) (none_of (claimed_axis h p) (sym (claimed_place h p) ∙ ap is_some n))
    ∙ ap (λ (b : Bool). elim (if b then Some axis else None) [ None ↦ None | Some a ↦ Some a ]) (eq-eqb p p refl)

-- an accepted claim has the axis of the source run, by each table that agrees with the deliveries
pub claim_source : (b c : Position) (by : ℕ) (plan : Plan) (state : Option ℕ) → IsClaimable b plan → IsLegal c → c ≡ with_entry b by (claim_of plan state) → (table : List Given) → length table ≡ length b.job.products → Agrees table (past c) → slice_get (axes (static_items b.job.products) table) plan.number ≡ Some plan.axis
claim_source b c by plan state claimable legal is table long agrees =
    let there : claimed_axis (past c) plan.number ≡ Some plan.axis =
    ap (λ (q : Position). claimed_axis (past q) plan.number) is
    ∙ ap (λ (h : History). claimed_axis h plan.number) (entries_push b.history by (claim_of plan state))
    ∙ claimed_new (past b) plan.number plan.axis plan.port state plan.cells claimable.before.before.before.before.before.unclaimed in
    let job : c.job ≡ b.job = ap (λ (q : Position). q.job) is in
    subst (λ (j : BoardJob). length table ≡ length j.products → slice_get (axes (static_items j.products) table) plan.number ≡ Some plan.axis) job
    (λ l. legal_claims legal.limits.qubits c.job table legal.limits.axes_fit l (past c) plan.number plan.axis legal.legal agrees there) long

-- a look's axis, for a product that waits on none, is that of the source run; and a claimed product keeps its axis
pub look_source : (b : Position) (p : ℕ) (look : Look) → IsLegal b → Shows b p look → done_place (past b) p ≡ None → look.waits ≡ None → AxisOf b.job (past b) p look.axis
look_source b p look legal s once none =
    let least : LeastWait b.job.products (past b) p None = subst (λ (o : Option ℕ). LeastWait b.job.products (past b) p o) none s.waits in
    subst (λ (a : Signed). AxisOf b.job (past b) p a) (sym s.axis)
    (frame_is_source legal.limits.qubits b.job (past b) p s.static legal.limits.axes_fit legal.legal s.is once (ready_of b.job (past b) p least))

pub look_stays : (b : Position) (p : ℕ) (look : Look) → IsLegal b → Shows b p look → (axis : Signed) → claimed_axis (past b) p ≡ Some axis → done_place (past b) p ≡ None → look.axis ≡ axis
look_stays b p look legal s axis claimed once = s.axis ∙ axis_stays legal.limits.qubits b.job (past b) p axis s.static legal.limits.axes_fit legal.legal s.is claimed once

-- after each entry the products that are done stand in source order up to swaps
pub order_source : (b c : Position) (by : ℕ) (e : Entry) → IsLegal c → c ≡ with_entry b by e → (table : List Given) → length table ≡ length b.job.products → Agrees table (past c) → InSourceOrderUpToSwaps b.job.products table (past c)
order_source b c by e legal is table long agrees =
    subst (λ (j : BoardJob). length table ≡ length j.products → InSourceOrderUpToSwaps j.products table (past c)) (ap (λ (q : Position). q.job) is)
    (λ l. legal_order legal.limits.qubits c.job table legal.limits.axes_fit l (past c) legal.legal agrees) long
