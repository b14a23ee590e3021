-- The parts of a claim.
use Rattle.std.proofs.Common.{◌≡◌, ◌≢◌, ℕ, zero, suc, ◌<◌, ◌≤◌, inl, inr, Bool, List, [], ◌∷◌, length, All, Option, Some, None, is_some, slice_get, refl, ap, sym, ◌∙◌, arith, subst}
use Rattle.std.proofs.lemmas.Bool.{true≢false}
use Rattle.std.proofs.lemmas.Option.{same_Some, slice_get_within, get_or_from_slice_get}
use Rattle.pauli_product.specs.Signed.{Signed}
use Rattle.pauli_product.specs.Pulls.{carry}
use Rattle.source_model.specs.declared.Kind.{Kind}
use Rattle.source_model.specs.declared.Kind.TheVariants as kind
use Rattle.source_model.specs.declared.Static.{Static}
use Rattle.patch_layout.specs.Grid.{Grid, Sound}
use Rattle.patch_layout.specs.declared.plan.Plan.{Plan}
use Rattle.patch_layout.specs.declared.plan.Fault.{Fault}
use Rattle.patch_layout.specs.Certificate.{Case, Certified, Checked, CellFits, Each, PortFits}
use Rattle.patch_layout.specs.Case.{case_of}
use Rattle.patch_layout.proofs.Fits.{certified_fits}
use Rattle.patch_layout.proofs.Certifying.{fits_ascending}
use Rattle.magic_pool.specs.Recount.{first_of_list}
use Rattle.board_core.specs.declared.board.Standing.{Standing}
use Rattle.board_core.specs.declared.Entry.TheVariants.{Deliver}
use Rattle.board_core.specs.declared.board.Differ.{Differ}
use Rattle.board_core.specs.declared.board.ClaimWhy.TheVariants as claim
use Rattle.board_core.specs.History.{History, is_claim_of, claim_place, done_place, delivered, steps, taken_states}
use Rattle.board_core.specs.Legal.{BoardJob, Allowed, AxisOf, ClaimCell, Holds, Legal, TakesState}
use Rattle.board_core.specs.View.{turns_of}
use Rattle.board_core.specs.Position.{Position, past, IsLegal}
use Rattle.board_core.specs.inside.Cells.{LeastTaken}
use Rattle.board_core.specs.Books.{TakesRegion, HoldersAre, standing_of}
use Rattle.board_core.specs.inside.Books.{next_state}
use Rattle.board_core.specs.Causes.{is_rotation, IsProduct, DiffersAt, Unclaimed, Waiting, HasAxis, LeastHeld, IsClaimable, ClaimRefusedBecause, case_for, ready, claim_of}
use Rattle.board_core.proofs.Places.{some_of}
use Rattle.board_core.proofs.LegalOrder.{delivered_at}
use Rattle.board_core.proofs.Going.{some_take}
use Rattle.board_core.proofs.Waits.{ready_of}
use Rattle.board_core.proofs.Frame.{frame_is_source}
use Rattle.board_core.proofs.Releasing.{done_delivered}

pub one_product : (b : Position) (p : ℕ) (s t : Static) → IsProduct b p s → IsProduct b p t → s ≡ t
one_product b p s t e f = same_Some s t (sym e ∙ f)

-- a product without a claim
pub unclaimed_here : (b : Position) (plan : Plan) (s : Static) (k : Kind) (st : Standing) → IsProduct b plan.number s → k ≡ s.kind → TakesRegion k → st ≡ standing_of (past b) plan.number → st.claim ≡ None → Unclaimed b plan
unclaimed_here b plan s k st e kind-is region places none = record {
  static = s;
  product = e;
  region = subst TakesRegion kind-is region;
  unclaimed = sym (ap (λ (x : Standing). x.claim) places) ∙ none;
}

-- ---- the axis
-- what isn't claimed isn't done, where it takes a region
pub unclaimed_undone : (j : BoardJob) (h : History) (p : ℕ) (s : Static) → Legal j h → slice_get j.products p ≡ Some s → TakesRegion s.kind → claim_place h p ≡ None → done_place h p ≡ None
unclaimed_undone j h p s legal e t n = go (done_place h p) refl
  where
    go : (o : Option ℕ) → done_place h p ≡ o → done_place h p ≡ None
    go None x = x
    go (Some k) x =
        let g = some_of (delivered h p) (done_delivered j h p k s legal e t x) in
        let d = delivered_at h p g.0 g.1 in
        let a = legal d.0 (Deliver p g.0) d.1 in
        absurd (true≢false (sym (some_take (is_claim_of p) h d.0 a.0) ∙ ap is_some n))

pub axis_here : (b : Position) (plan : Plan) (w : Waiting b plan) → IsLegal b → AxisOf b.job (past b) plan.number (carry (turns_of b.job.products (past b)) w.before.static.axis)
axis_here b plan w legal =
    frame_is_source legal.limits.qubits b.job (past b) plan.number w.before.static legal.limits.axes_fit legal.legal w.before.product
    (unclaimed_undone b.job (past b) plan.number w.before.static legal.legal w.before.product w.before.region w.before.unclaimed)
    (ready_of b.job (past b) plan.number w.waits)

pub has_axis : (b : Position) (plan : Plan) (own : Static) → Waiting b plan → IsLegal b → IsProduct b plan.number own → carry (turns_of b.job.products (past b)) own.axis ≡ plan.axis → HasAxis b plan
has_axis b plan own w legal e same =
    let is = one_product b plan.number w.before.static own w.before.product e in
    record {
      before = w;
      axis_of = subst (λ (a : Signed). AxisOf b.job (past b) plan.number a) (ap (λ (s : Static). carry (turns_of b.job.products (past b)) s.axis) is ∙ same) (axis_here b plan w legal);
    }

pub axis_differs : (b : Position) (plan : Plan) (own : Static) (at : Differ) → Waiting b plan → IsLegal b → IsProduct b plan.number own → DiffersAt (carry (turns_of b.job.products (past b)) own.axis) plan.axis at → ClaimRefusedBecause (claim.AxisDiffers at) b plan
axis_differs b plan own at w legal e differs =
    let is = one_product b plan.number w.before.static own w.before.product e in
    (w, (carry (turns_of b.job.products (past b)) own.axis, subst (λ (s : Static). AxisOf b.job (past b) plan.number (carry (turns_of b.job.products (past b)) s.axis)) is (axis_here b plan w legal), differs))

-- ---- the certificate
pub judged_case : (b : Position) (plan : Plan) (s : Static) (k : Kind) (r : Bool) (g : Grid) (o : Option Fault) → g ≡ b.job.grid → r ≡ is_rotation k → k ≡ s.kind → Checked (case_of g r plan) o → Checked (case_for b plan s) o
judged_case b plan s k r g o grid rotation same checked =
    subst (λ (x : Grid). Checked (case_of x (is_rotation s.kind) plan) o) grid
    (subst (λ (x : Bool). Checked (case_of g x plan) o) (rotation ∙ ap is_rotation same) checked)

-- the cells of a certified plan lie on the grid, and there are no more of them than the grid has
pub region_within : (c : Case) → Certified c → All (λ x. x < length c.grid.sites) c.cells
region_within c cert k d l =
    let f = cert.0.0.1 k l in
    subst (λ (x : ℕ). x < length c.grid.sites) (sym (get_or_from_slice_get c.cells k f.0 d f.1)) (slice_get_within c.grid.sites f.0 _ f.2)

cells_climb : (g : Grid) (cells : List ℕ) → Each (CellFits g cells) (length cells) → (k c : ℕ) → slice_get cells k ≡ Some c → k ≤ c
cells_climb g cells each zero c e = omega arith
cells_climb g cells each (suc k) c e =
    let in_range = slice_get_within cells (suc k) c e in
    let f = each (suc k) in_range in
    let same = same_Some f.0 c (sym f.1 ∙ e) in
    let before = each k (omega arith) in
    let l = f.3 k before.0 (omega arith) before.1 in
    let m = cells_climb g cells each k before.0 before.1 in
    omega arith

pub region_few : (c : Case) → Sound c.grid → Certified c → length c.cells ≤ 4096
region_few c sound cert = go (length c.cells) refl
  where
    go : (n : ℕ) → length c.cells ≡ n → length c.cells ≤ 4096
    go zero e = omega arith
    go (suc n) e =
        let f = cert.0.0.1 n (omega arith) in
        let m = cells_climb c.grid c.cells cert.0.0.1 n f.0 f.1 in
        let l = slice_get_within c.grid.sites f.0 _ f.2 in
        let s = sound.few in
        omega arith

-- ---- the cells
-- a claim's cell lies on the grid
claim_cell_within : (g : Grid) (axis : Signed) (through : Option ℕ) (cells : List ℕ) (c : ℕ) → All (λ x. x < length g.sites) cells → ClaimCell g axis through cells c → c < length g.sites
claim_cell_within g axis through cells c all (inl x) = subst (λ (y : ℕ). y < length g.sites) x.2 (all x.0 c x.1)
claim_cell_within g axis through cells c all (inr (inl x)) = slice_get_within g.sites c _ x.3
claim_cell_within g axis through cells c all (inr (inr x)) = slice_get_within g.sites c _ x.3

pub least_is_held : (b : Position) (plan : Plan) (holders : List (Option ℕ)) (cell by : ℕ) → HoldersAre b.job (past b) holders → All (λ x. x < length b.job.grid.sites) plan.cells → LeastTaken (ClaimCell b.job.grid plan.axis plan.port plan.cells) holders (Some (cell, by)) → LeastHeld b plan cell by
least_is_held b plan holders cell by are all t = record {
  claimed = t.0;
  held = (are.1 cell by (claim_cell_within b.job.grid plan.axis plan.port plan.cells cell all t.0)).0 t.1;
  least = λ c q l cl held. t.2 c q l cl ((are.1 c q (claim_cell_within b.job.grid plan.axis plan.port plan.cells c all cl)).1 held);
}

pub none_is_held : (b : Position) (plan : Plan) (holders : List (Option ℕ)) → HoldersAre b.job (past b) holders → All (λ x. x < length b.job.grid.sites) plan.cells → LeastTaken (ClaimCell b.job.grid plan.axis plan.port plan.cells) holders None → (c q : ℕ) → ClaimCell b.job.grid plan.axis plan.port plan.cells c → Holds b.job.grid (past b) q c → ⊥
none_is_held b plan holders are all t c q cl held = t c q cl ((are.1 c q (claim_cell_within b.job.grid plan.axis plan.port plan.cells c all cl)).1 held)

-- ---- the state
pub empty_list : (xs : List ℕ) (n : ℕ) → n ≡ length xs → n ≡ 0 → xs ≡ []
empty_list [] n e f = refl
empty_list (x ∷ xs) n e f = absurd (omega arith)

pub some_list : (xs : List ℕ) (n : ℕ) → n ≡ length xs → n ≢ 0 → xs ≢ []
some_list xs n e f g = f (e ∙ ap length g)

first_some : (xs : List ℕ) → xs ≢ [] → (s : ℕ) × (first_of_list xs ≡ Some s)
first_some [] ne = absurd (ne refl)
first_some (x ∷ xs) ne = (x, refl)

takes : (b : Position) (through state : Option ℕ) (k : Kind) → TakesRegion k → PortFits b.job.grid (is_rotation k) through → ((f : ℕ) → through ≡ Some f → ready b f ≢ []) → state ≡ next_state b.job.fails (steps (past b)) (taken_states (past b)) through → TakesState b.job (past b) k through state
takes b None state kind.Rotation t fits some e = absurd fits
takes b (Some f) state kind.Rotation t fits some e = let s = first_some (ready b f) (some f refl) in (f, s.0, refl, e ∙ s.1, s.1)
takes b None state (kind.Measure bit) t fits some e = (refl, e)
takes b (Some f) state (kind.Measure bit) t fits some e = absurd fits
takes b through state (kind.Settle first size value) t fits some e = absurd t

-- a claim all of whose parts hold is allowed
pub claim_allowed : (b : Position) (plan : Plan) (state : Option ℕ) → Sound b.job.grid → IsClaimable b plan → state ≡ next_state b.job.fails (steps (past b)) (taken_states (past b)) plan.port → Allowed b.job (past b) (claim_of plan state)
claim_allowed b plan state sound c e =
    let fits = c.before.before in
    let w = fits.before.before in
    let s = w.before.static in
    record {
      product = (s, w.before.product, takes b plan.port state s.kind w.before.region fits.checked.0.0.0.1 c.stocked e);
      unclaimed = w.before.unclaimed;
      ready = ready_of b.job (past b) plan.number w.waits;
      axis_of = fits.before.axis_of;
      fits = certified_fits (case_for b plan s) sound fits.checked;
      ascending = fits_ascending b.job.grid plan.cells fits.checked.0.0.1;
      free = c.before.free;
    }
