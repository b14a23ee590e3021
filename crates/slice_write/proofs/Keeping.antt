-- The tables behind one entry more.
use Rattle.std.proofs.Common.{◌≡◌, ℕ, ◌+◌, ◌-◌, ◌<◌, ◌≤◌, max, Bool, true, false, ◌==◌, not, List, [], ◌∷◌, ◌++◌, length, get_or, map, refl, ap, sym, ◌∙◌, subst, arith, inl, inr, append-nil, eqb-true, get_or-set_same, get_or-set_other, length-set}
use Rattle.std.specs.Prelude.{insert, Option, Some, None, IfSome, if◌then◌else◌}
use Rattle.std.specs.List.Sorted.{IsNonDecreasingBy}
use Rattle.std.proofs.lemmas.Bool.{cases_Bool, cases_lt, eqb-false}
use Rattle.std.proofs.lemmas.List.{map-append, length_push}
use Rattle.std.proofs.lemmas.List.Edits.{length-insert, get_or-insert_below, get_or-insert_at, get_or-insert_above}
use Rattle.pauli_product.specs.Signed.{Signed}
use Rattle.source_model.specs.declared.Static.{Static}
use Rattle.patch_layout.specs.Grid.{Grid}
use Rattle.magic_pool.specs.Recount.{step_count}
use Rattle.board_core.specs.declared.Entry.{Entry}
use Rattle.board_core.specs.declared.Entry.TheVariants.{Claim, Settle}
use Rattle.board_core.specs.History.{steps, steps_in, is_claim_of}
use Rattle.board_core.specs.Legal.{BoardJob}
use Rattle.slice_write.specs.declared.placed.Placed.{Placed}
use Rattle.slice_write.specs.declared.factory.Factory.{Factory}
use Rattle.slice_write.specs.declared.ledger.Ledger.{Ledger}
use Rattle.slice_write.specs.Slices.{Sliced, greatest, greatest_of, is_step_of, is_claim_with, is_among, is_claim_cell, holds_cell, clashes_with, commute_at, entries_of, made_in}
use Rattle.slice_write.specs.inside.Numbers.{raised, raised_if}
use Rattle.slice_write.specs.inside.Clashes.{greatest_clash, placed_at, PlacedAre, Inserts}
use Rattle.slice_write.specs.inside.Factories.{FactoryIs}
use Rattle.slice_write.specs.inside.Tables.{Keeps, NotesClaim, NotesSettle}
use Rattle.slice_write.proofs.Greatest.{greatest-append, greatest_more, greatest_skip}
use Rattle.slice_write.proofs.Clashing.{clash_insert}
use Rattle.slice_write.proofs.Making.{entries_more, steps_more, made_same, made_at_quiet, own_quiet}

-- the greatest of all
pub bound_more : (done : List Sliced) (e : Entry) (n : ℕ) → greatest (map (λ (x : Sliced). x.1) done) ≤ length done → n ≤ length done + 1
    → greatest (map (λ (x : Sliced). x.1) (done ++ (e, n) ∷ [])) ≤ length (done ++ (e, n) ∷ [])
bound_more done e n bound few =
    let all : greatest (map (λ (x : Sliced). x.1) (done ++ (e, n) ∷ [])) ≡ max (greatest (map (λ (x : Sliced). x.1) done)) (greatest (n ∷ [])) =
    ap greatest (map-append (λ (x : Sliced). x.1) done ((e, n) ∷ [])) ∙ greatest-append (map (λ (x : Sliced). x.1) done) (n ∷ []) in
    omega (arith, all, bound, few, length_push done (e, n))

-- a raised place
pub raised_at : (table : List ℕ) (i n k : ℕ) → i < length table → get_or (raised table i n) k 0 ≡ max (get_or table k 0) (if i == k then n else 0)
raised_at table i n k inside = elim (cases_Bool (i == k)) [
  | inl same ↦
      let e : i ≡ k = eqb-true i k same in
      rw (same, ← e) (get_or-set_same table i (max n (get_or table i 0)) 0 inside ∙ omega arith)
  | inr other ↦
      let ne : i ≡ k → ⊥ = eqb-false i k other in
      rw other (get_or-set_other table i k (max n (get_or table i 0)) 0 (λ e. ne (sym e)) ∙ omega arith)
]

taken_at : (table : List ℕ) (p : ℕ) (axis : Signed) (through state : Option ℕ) (cells : List ℕ) (n k : ℕ) → IfSome state (λ s. s < length table)
    → get_or (raised_if table state n) k 0 ≡ max (get_or table k 0) (if is_claim_with k (Claim p axis through state cells) then n else 0)
taken_at table p axis through None cells n k inside = omega arith
taken_at table p axis through (Some s) cells n k inside = raised_at table s n k inside

taken_long : (table : List ℕ) (state : Option ℕ) (n : ℕ) → length (raised_if table state n) ≡ length table
taken_long table None n = refl
taken_long table (Some s) n = length-set table s (max n (get_or table s 0))

-- a factory behind an entry that is no step of it
factory_quiet : (j : BoardJob) (done : List Sliced) (e : Entry) (n f : ℕ) (x : Factory) → steps_in e ≡ [] → is_step_of f e ≡ false → FactoryIs j done f x → FactoryIs j (done ++ (e, n) ∷ []) f x
factory_quiet j done e n f x quiet other is = record {
  steps = is.steps ∙ ap (step_count f) (sym (ap steps (entries_more done e n) ∙ steps_more (entries_of done) e ∙ ap (λ l. steps (entries_of done) ++ l) quiet ∙ append-nil (steps (entries_of done))));
  last = is.last ∙ sym (greatest_skip (is_step_of f) done e n other);
  own = is.own ∙ sym (own_quiet j.fails done e n f quiet);
  runs = is.runs;
}

made_quiet : (j : BoardJob) (done : List Sliced) (e : Entry) (n : ℕ) → steps_in e ≡ [] → made_in j.fails (entries_of (done ++ (e, n) ∷ [])) ≡ made_in j.fails (entries_of done)
made_quiet j done e n quiet = ap (made_in j.fails) (entries_more done e n) ∙ made_same j.fails (entries_of done) e quiet

-- one product more among the placed
placed_more : (products : List Static) (was now : List Placed) (x : Placed) → PlacedAre products was → Inserts was now x → IsNonDecreasingBy (λ (y : Placed). y.slice) now → x.product < length products → PlacedAre products now
placed_more products was now x are (i, within, is) sorted known = record {
  sorted = sorted;
  numbered = λ k d h.
      let P : List Placed → Type 0 = λ l. (get_or l k d).product < length products in
      let long : length now ≡ length was + 1 = ap length is ∙ length-insert was i x within in
      subst P (sym is) (elim (cases_lt k i) [
        | inl below ↦ rw (get_or-insert_below was i x d k below within) (are.numbered k d (omega arith))
        | inr above ↦ elim (cases_lt i k) [
          | inl past ↦
              let Q : ℕ → Type 0 = λ m. (get_or (insert was i x) m d).product < length products in
              let back : (k - 1) + 1 ≡ k = omega arith in
              subst Q back (rw (get_or-insert_above was i x d (k - 1) (omega arith) within) (are.numbered (k - 1) d (omega (arith, h, long))))
          | inr here ↦
              let e : k ≡ i = omega arith in
              rw (e, get_or-insert_at was i x d within) known
        ]
      ]);
}

clashes_more : (products : List Static) (was now : List Placed) (done : List Sliced) (e : Entry) (n p q : ℕ) → Inserts was now (placed_at n p) → clashes_with products q e ≡ not (commute_at products p q)
    → greatest_clash products was q ≡ greatest_of (clashes_with products q) done → greatest_clash products now q ≡ greatest_of (clashes_with products q) (done ++ (e, n) ∷ [])
clashes_more products was now done e n p q (i, within, is) same so_far =
    ap (λ l. greatest_clash products l q) is
    ∙ clash_insert products was i (placed_at n p) q
    ∙ ap (λ m. max m (if not (commute_at products p q) then n else 0)) so_far
    ∙ ap (λ b. max (greatest_of (clashes_with products q) done) (if b then n else 0)) (sym same)
    ∙ sym (greatest_more (clashes_with products q) done e n)

cell_more : (g : Grid) (done : List Sliced) (p : ℕ) (axis : Signed) (through state : Option ℕ) (region held : List ℕ) (n was now c : ℕ) → is_among held c ≡ is_claim_cell g axis through region c
    → was ≡ greatest_of (holds_cell g c) done → (is_among held c ≡ true → was ≤ n) → now ≡ (if is_among held c then n else was)
    → now ≡ greatest_of (holds_cell g c) (done ++ (Claim p axis through state region, n) ∷ [])
cell_more g done p axis through state region held n was now c same so_far le is =
    is ∙ go (is_among held c) le ∙ ap (λ b. max was (if b then n else 0)) same ∙ ap (λ m. max m (if is_claim_cell g axis through region c then n else 0)) so_far ∙ sym (greatest_more (holds_cell g c) done (Claim p axis through state region) n)
  where
    go : (b : Bool) → (b ≡ true → was ≤ n) → (if b then n else was) ≡ max was (if b then n else 0)
    go true le = omega (arith, le refl)
    go false le = omega arith

pub keeps_claim : (j : BoardJob) (done : List Sliced) (was now : Ledger) (n p : ℕ) (axis : Signed) (through state : Option ℕ) (region : List ℕ)
    → Keeps j done was → NotesClaim was now n p state → ((c : ℕ) → is_among was.held.items c ≡ is_claim_cell j.grid axis through region c)
    → p < length j.products → IfSome state (λ s. s < length was.taken.items) → ((c : ℕ) → is_among was.held.items c ≡ true → get_or was.cells.items c 0 ≤ n) → n ≤ length done + 1
    → Keeps j (done ++ (Claim p axis through state region, n) ∷ []) now
keeps_claim j done was now n p axis through state region k notes held known taken above few =
    let e = Claim p axis through state region in
    record {
      bound = bound_more done e n k.bound few;
      size = notes.size ∙ k.size;
      cells = λ c low. cell_more j.grid done p axis through state region was.held.items n (get_or was.cells.items c 0) (get_or now.cells.items c 0) c (held c) (k.cells c low)
          (above c) (notes.cells c (omega (arith, low, k.size)));
      products = ap length notes.claims ∙ length-set was.claims.items p (max n (get_or was.claims.items p 0)) ∙ k.products;
      claims = λ q. ap (λ l. get_or l q 0) notes.claims ∙ raised_at was.claims.items p n q (omega (arith, known, k.products)) ∙ ap (λ m. max m (if p == q then n else 0)) (k.claims q) ∙ sym (greatest_more (is_claim_of q) done e n);
      states = ap length notes.made ∙ k.states ∙ ap length (sym (made_quiet j done e n refl));
      made = λ s. ap (λ l. get_or l s 0) notes.made ∙ k.made s ∙ sym (made_at_quiet j.fails done e n s refl);
      states_taken = ap length notes.taken ∙ taken_long was.taken.items state n ∙ k.states_taken ∙ ap length (sym (made_quiet j done e n refl));
      taken = λ s. ap (λ l. get_or l s 0) notes.taken ∙ taken_at was.taken.items p axis through state region n s taken ∙ ap (λ m. max m (if is_claim_with s e then n else 0)) (k.taken s) ∙ sym (greatest_more (is_claim_with s) done e n);
      count = ap length notes.factories ∙ k.count;
      factories = λ f d low. factory_quiet j done e n f (get_or now.factories.items f d) refl refl (let P : List Factory → Type 0 = λ l. FactoryIs j done f (get_or l f d) in subst P (sym notes.factories) (k.factories f d low));
      placed = placed_more j.products was.placed.items now.placed.items (placed_at n p) k.placed notes.placed notes.sorted known;
      clashes = λ q. clashes_more j.products was.placed.items now.placed.items done e n p q notes.placed refl (k.clashes q);
    }

pub keeps_settle : (j : BoardJob) (done : List Sliced) (was now : Ledger) (n p : ℕ) (flip : Bool)
    → Keeps j done was → NotesSettle was now n p → p < length j.products → n ≤ length done + 1
    → Keeps j (done ++ (Settle p flip, n) ∷ []) now
keeps_settle j done was now n p flip k notes known few =
    let e = Settle p flip in
    record {
      bound = bound_more done e n k.bound few;
      size = ap length notes.cells ∙ k.size;
      cells = λ c low. ap (λ l. get_or l c 0) notes.cells ∙ k.cells c low ∙ sym (greatest_skip (holds_cell j.grid c) done e n refl);
      products = ap length notes.claims ∙ k.products;
      claims = λ q. ap (λ l. get_or l q 0) notes.claims ∙ k.claims q ∙ sym (greatest_skip (is_claim_of q) done e n refl);
      states = ap length notes.made ∙ k.states ∙ ap length (sym (made_quiet j done e n refl));
      made = λ s. ap (λ l. get_or l s 0) notes.made ∙ k.made s ∙ sym (made_at_quiet j.fails done e n s refl);
      states_taken = ap length notes.taken ∙ k.states_taken ∙ ap length (sym (made_quiet j done e n refl));
      taken = λ s. ap (λ l. get_or l s 0) notes.taken ∙ k.taken s ∙ sym (greatest_skip (is_claim_with s) done e n refl);
      count = ap length notes.factories ∙ k.count;
      factories = λ f d low. factory_quiet j done e n f (get_or now.factories.items f d) refl refl (let P : List Factory → Type 0 = λ l. FactoryIs j done f (get_or l f d) in subst P (sym notes.factories) (k.factories f d low));
      placed = placed_more j.products was.placed.items now.placed.items (placed_at n p) k.placed notes.placed notes.sorted known;
      clashes = λ q. clashes_more j.products was.placed.items now.placed.items done e n p q notes.placed refl (k.clashes q);
    }

-- an entry that changes nothing
pub keeps_quiet : (j : BoardJob) (done : List Sliced) (t : Ledger) (e : Entry) (n : ℕ)
    → Keeps j done t → steps_in e ≡ [] → ((c : ℕ) → holds_cell j.grid c e ≡ false) → ((q : ℕ) → is_claim_of q e ≡ false) → ((s : ℕ) → is_claim_with s e ≡ false)
    → ((f : ℕ) → is_step_of f e ≡ false) → ((q : ℕ) → clashes_with j.products q e ≡ false) → n ≤ length done + 1
    → Keeps j (done ++ (e, n) ∷ []) t
keeps_quiet j done t e n k quiet cells claims taken no_step clashes few = record {
  bound = bound_more done e n k.bound few;
  size = k.size;
  cells = λ c low. k.cells c low ∙ sym (greatest_skip (holds_cell j.grid c) done e n (cells c));
  products = k.products;
  claims = λ q. k.claims q ∙ sym (greatest_skip (is_claim_of q) done e n (claims q));
  states = k.states ∙ ap length (sym (made_quiet j done e n quiet));
  made = λ s. k.made s ∙ sym (made_at_quiet j.fails done e n s quiet);
  states_taken = k.states_taken ∙ ap length (sym (made_quiet j done e n quiet));
  taken = λ s. k.taken s ∙ sym (greatest_skip (is_claim_with s) done e n (taken s));
  count = k.count;
  factories = λ f d low. factory_quiet j done e n f (get_or t.factories.items f d) quiet (no_step f) (k.factories f d low);
  placed = k.placed;
  clashes = λ q. k.clashes q ∙ sym (greatest_skip (clashes_with j.products q) done e n (clashes q));
}
