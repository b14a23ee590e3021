-- The slice of an entry, and the tables that have it.
use Rattle.std.proofs.Common.{◌≡◌, ℕ, ◌+◌, ◌-◌, ◌^◌, ◌<◌, ◌≤◌, max, Bool, true, List, length, get_or, map, refl, ap, sym, ◌∙◌, subst, arith, Result, Ok, Err}
use Rattle.std.specs.Prelude.{All, Option, Some, None, IfSome, IfOk}
use Rattle.patch_base.specs.declared.outside.Memory.{Memory}
use Rattle.pauli_product.specs.Signed.{Signed}
use Rattle.source_model.specs.declared.Given.{Given}
use Rattle.source_model.specs.declared.Static.{Static}
use Rattle.patch_layout.specs.Grid.{Grid}
use Rattle.board_core.specs.declared.Entry.{Entry}
use Rattle.board_core.specs.declared.Entry.TheVariants.{Claim, Deliver, Release, Step, Settle}
use Rattle.board_core.specs.History.{is_claim_of}
use Rattle.board_core.specs.Legal.{BoardJob}
use Rattle.slice_write.specs.declared.factory.Factory.{Factory}
use Rattle.slice_write.specs.declared.ledger.Ledger.{Ledger}
use Rattle.slice_write.specs.Slices.{Sliced, greatest, greatest_of, is_among, is_claim_cell, shares_cell, clashes_with, state_made, entries_of, made_in, store_in, slice_of}
use Rattle.slice_write.specs.inside.Numbers.{greatest_at, made_by}
use Rattle.slice_write.specs.inside.Clashes.{greatest_clash}
use Rattle.slice_write.specs.inside.Factories.{IsReady, step_of}
use Rattle.slice_write.specs.inside.Tables.{job, Keeps, Fits, Awaits, IsNext, Notes, NotesClaim, NotesSettle, NotesStep}
use Rattle.slice_write.proofs.Greatest.{greatest_le, value_le}
use Rattle.slice_write.proofs.Making.{made_at_le}
use Rattle.slice_write.proofs.Shared.{shared_is}
use Rattle.slice_write.proofs.Keeping.{keeps_claim, keeps_settle, keeps_quiet}
use Rattle.slice_write.proofs.Stepping.{keeps_step, step_value, step_few, step_above, step_ready, first_of}

abbrev pub with_held : Ledger → Ledger → Ledger
with_held t u = record t { held = u.held }

-- the cells in hand don't matter
keeps_held : (j : BoardJob) (done : List Sliced) (t u : Ledger) → Keeps j done t → u ≡ with_held t u → Keeps j done u
keeps_held j done t u k same =
    let P : Ledger → Type 0 = λ v. Keeps j done v in
    subst P (sym same) (record {
      bound = k.bound;
      size = k.size;
      cells = k.cells;
      products = k.products;
      claims = k.claims;
      states = k.states;
      made = k.made;
      states_taken = k.states_taken;
      taken = k.taken;
      count = k.count;
      factories = k.factories;
      placed = k.placed;
      clashes = k.clashes;
    })

made_is : (j : BoardJob) (done : List Sliced) (t : Ledger) (state : Option ℕ) → Keeps j done t → made_by t.made.items state ≡ state_made j.fails state done
made_is j done t None k = refl
made_is j done t (Some s) k = k.made s

state_made_le : (j : BoardJob) (done : List Sliced) (state : Option ℕ) → state_made j.fails state done ≤ greatest (map (λ (e : Sliced). e.1) done)
state_made_le j done None = omega arith
state_made_le j done (Some s) = made_at_le j.fails s done

claim_value : (j : BoardJob) (done : List Sliced) (p : ℕ) (axis : Signed) (through state : Option ℕ) (region : List ℕ)
    → slice_of j done (Claim p axis through state region) ≡ 1 + max (state_made j.fails state done) (max (greatest_of (shares_cell j.grid axis through region) done) (greatest_of (clashes_with j.products p) done))
unfolding slice_of
claim_value j done p axis through state region = refl

-- the greatest of what a claim stands behind but for clashes
floor_is : (j : BoardJob) (done : List Sliced) (was mid : Ledger) (axis : Signed) (through state : Option ℕ) (region : List ℕ) (floor : ℕ) → Keeps j done was
    → ((c : ℕ) → is_among mid.held.items c ≡ is_claim_cell j.grid axis through region c) → All (λ c. c < length j.grid.sites) mid.held.items
    → floor ≡ max (greatest_at was.cells.items mid.held.items) (made_by was.made.items state)
    → floor ≡ max (greatest_of (shares_cell j.grid axis through region) done) (state_made j.fails state done)
floor_is j done was mid axis through state region floor k held inside is =
    is ∙ ap (λ n. max n (made_by was.made.items state)) (shared_is j.grid axis through region mid.held.items was.cells.items done held inside k.cells)
    ∙ ap (max (greatest_of (shares_cell j.grid axis through region) done)) (made_is j done was state k)

pub claim_next : (j : BoardJob) (done : List Sliced) (was mid now : Ledger) (p : ℕ) (axis : Signed) (through state : Option ℕ) (region : List ℕ) (floor n : ℕ)
    → Keeps j done was → Fits j done (Claim p axis through state region) → mid ≡ with_held was mid
    → ((c : ℕ) → is_among mid.held.items c ≡ is_claim_cell j.grid axis through region c) → All (λ c. c < length j.grid.sites) mid.held.items
    → floor ≡ max (greatest_at was.cells.items mid.held.items) (made_by was.made.items state)
    → n ≡ 1 + max floor (greatest_clash j.products mid.placed.items p) → NotesClaim mid now n p state
    → IsNext j done (Claim p axis through state region) n now
claim_next j done was mid now p axis through state region floor n k (known, cells, made) same held inside is value notes =
    let k2 = keeps_held j done was mid k same in
    let floor_now = floor_is j done was mid axis through state region floor k held inside is in
    let clash : greatest_clash j.products mid.placed.items p ≡ greatest_of (clashes_with j.products p) done = k2.clashes p in
    let P : Ledger → Type 0 = λ v. (c : ℕ) → is_among mid.held.items c ≡ true → get_or v.cells.items c 0 ≤ n in
    let above : (c : ℕ) → is_among mid.held.items c ≡ true → get_or mid.cells.items c 0 ≤ n = subst P (sym same) (λ c among. omega (arith, value_le (λ d. get_or was.cells.items d 0) mid.held.items c among, is, value)) in
    let its : n ≡ slice_of j done (Claim p axis through state region) = omega (arith, value, floor_now, clash, claim_value j done p axis through state region) in
    record {
      slice = its;
      keeps = keeps_claim j done mid now n p axis through state region k2 notes held known (taken state made) above (omega (arith, value, floor_now, clash, greatest_le (shares_cell j.grid axis through region) done, state_made_le j done state, greatest_le (clashes_with j.products p) done, k.bound));
    }
  where
    taken : (state : Option ℕ) → IfSome state (λ s. s < length (made_in j.fails (entries_of done))) → IfSome state (λ s. s < length mid.taken.items)
    taken None made = tt
    taken (Some s) made = omega (arith, made, (keeps_held j done was mid k same).states_taken)

settle_value : (j : BoardJob) (done : List Sliced) (p : ℕ) (flip : Bool) → slice_of j done (Settle p flip) ≡ greatest_of (clashes_with j.products p) done
unfolding slice_of
settle_value j done p flip = refl

deliver_value : (j : BoardJob) (done : List Sliced) (p : ℕ) (g : Given) → slice_of j done (Deliver p g) ≡ greatest_of (is_claim_of p) done
unfolding slice_of
deliver_value j done p g = refl

release_value : (j : BoardJob) (done : List Sliced) (p : ℕ) → slice_of j done (Release p) ≡ greatest_of (is_claim_of p) done
unfolding slice_of
release_value j done p = refl

-- no number of a claim is too great
pub claim_few : (products : List Static) (grid : Grid) (was mid : Ledger) (e : Entry) (p : ℕ) (axis : Signed) (through state : Option ℕ) (region : List ℕ) (floor : ℕ)
    → Awaits products grid was e → e ≡ Claim p axis through state region → mid ≡ with_held was mid
    → ((c : ℕ) → is_among mid.held.items c ≡ is_claim_cell grid axis through region c) → All (λ c. c < length grid.sites) mid.held.items
    → floor ≡ max (greatest_at was.cells.items mid.held.items) (made_by was.made.items state)
    → max floor (greatest_clash products mid.placed.items p) < 2 ^ 32 - 1
claim_few products grid was mid e p axis through state region floor (fails, done, k, fits, few) same_entry same held inside is =
    let j = job products grid fails in
    let k2 = keeps_held j done was mid k same in
    omega (arith, floor_is j done was mid axis through state region floor k held inside is, k2.clashes p, greatest_le (shares_cell grid axis through region) done, state_made_le j done state, greatest_le (clashes_with products p) done, k.bound, few)

pub claim_returns : (products : List Static) (grid : Grid) (was mid now : Ledger) (e : Entry) (p : ℕ) (axis : Signed) (through state : Option ℕ) (region : List ℕ) (floor : ℕ) (r : Result ℕ Memory)
    → e ≡ Claim p axis through state region → mid ≡ with_held was mid
    → ((c : ℕ) → is_among mid.held.items c ≡ is_claim_cell grid axis through region c) → All (λ c. c < length grid.sites) mid.held.items
    → floor ≡ max (greatest_at was.cells.items mid.held.items) (made_by was.made.items state)
    → IfOk r (λ n. n ≡ 1 + max floor (greatest_clash products mid.placed.items p)) → IfOk r (λ n. NotesClaim mid now n p state)
    → IfOk r (λ n. Notes products grid was e n now)
claim_returns products grid was mid now e p axis through state region floor (Ok n) entry same held inside is value notes = λ fails done k fits.
    let P : Entry → Type 0 = λ x. Fits (job products grid fails) done x in
    let Q : Entry → Type 0 = λ x. IsNext (job products grid fails) done x n now in
    subst Q (sym entry) (claim_next (job products grid fails) done was mid now p axis through state region floor n k (subst P entry fits) same held inside is value notes)
claim_returns products grid was mid now e p axis through state region floor (Err x) entry same held inside is value notes = tt

pub settle_returns : (products : List Static) (grid : Grid) (was now : Ledger) (e : Entry) (p : ℕ) (flip : Bool) (r : Result ℕ Memory)
    → e ≡ Settle p flip → IfOk r (λ n. n ≡ greatest_clash products was.placed.items p) → IfOk r (λ n. NotesSettle was now n p)
    → IfOk r (λ n. Notes products grid was e n now)
settle_returns products grid was now e p flip (Ok n) entry value notes = λ fails done k fits.
    let j = job products grid fails in
    let P : Entry → Type 0 = λ x. Fits j done x in
    let Q : Entry → Type 0 = λ x. IsNext j done x n now in
    subst Q (sym entry) (record {
      slice = value ∙ k.clashes p ∙ sym (settle_value j done p flip);
      keeps = keeps_settle j done was now n p flip k notes (subst P entry fits) (omega (arith, value, k.clashes p, greatest_le (clashes_with products p) done, k.bound));
    })
settle_returns products grid was now e p flip (Err x) entry value notes = tt

pub deliver_next : (products : List Static) (grid : Grid) (t : Ledger) (e : Entry) (p : ℕ) (g : Given) (n : ℕ) → e ≡ Deliver p g → n ≡ get_or t.claims.items p 0 → Notes products grid t e n t
deliver_next products grid t e p g n entry value = λ fails done k fits.
    let j = job products grid fails in
    let Q : Entry → Type 0 = λ x. IsNext j done x n t in
    subst Q (sym entry) (record {
      slice = value ∙ k.claims p ∙ sym (deliver_value j done p g);
      keeps = keeps_quiet j done t (Deliver p g) n k refl (λ c. refl) (λ q. refl) (λ s. refl) (λ f. refl) (λ q. refl) (omega (arith, value, k.claims p, greatest_le (is_claim_of p) done, k.bound));
    })

pub release_next : (products : List Static) (grid : Grid) (t : Ledger) (e : Entry) (p n : ℕ) → e ≡ Release p → n ≡ get_or t.claims.items p 0 → Notes products grid t e n t
release_next products grid t e p n entry value = λ fails done k fits.
    let j = job products grid fails in
    let Q : Entry → Type 0 = λ x. IsNext j done x n t in
    subst Q (sym entry) (record {
      slice = value ∙ k.claims p ∙ sym (release_value j done p);
      keeps = keeps_quiet j done t (Release p) n k refl (λ c. refl) (λ q. refl) (λ s. refl) (λ f. refl) (λ q. refl) (omega (arith, value, k.claims p, greatest_le (is_claim_of p) done, k.bound));
    })

pub step_awaits : (products : List Static) (grid : Grid) (t : Ledger) (e : Entry) (f : ℕ) → Awaits products grid t e → e ≡ Step f → (d : Factory) → IsReady t.taken.items (get_or t.factories.items f d) (store_in grid.sites f)
step_awaits products grid t e f (fails, done, k, fits, few) entry d =
    let j = job products grid fails in
    let P : Entry → Type 0 = λ x. Fits j done x in
    let low : f < 16 = subst P entry fits in
    step_ready j done t f (get_or t.factories.items f d) k (k.factories f d low) few

pub step_returns : (products : List Static) (grid : Grid) (was now : Ledger) (e : Entry) (f : ℕ) (r : Result ℕ Memory)
    → e ≡ Step f → IfOk r (λ n. (d : Factory) → n ≡ step_of was.taken.items (get_or was.factories.items f d) (store_in grid.sites f)) → IfOk r (λ n. (d : Factory) → NotesStep was now f n (get_or was.factories.items f d))
    → IfOk r (λ n. Notes products grid was e n now)
step_returns products grid was now e f (Ok n) entry value notes = λ fails done k fits.
    let j = job products grid fails in
    let P : Entry → Type 0 = λ x. Fits j done x in
    let Q : Entry → Type 0 = λ x. IsNext j done x n now in
    let low : f < 16 = subst P entry fits in
    let d : Factory = first_of was.factories.items (omega (arith, k.count)) in
    let its : n ≡ slice_of j done (Step f) = value d ∙ step_value j done was f (get_or was.factories.items f d) k (k.factories f d low) in
    subst Q (sym entry) (record {
      slice = its;
      keeps = keeps_step j done was now f n k notes low (omega (arith, its, step_above j done f)) (omega (arith, its, step_few j done was f k));
    })
step_returns products grid was now e f (Err x) entry value notes = tt
