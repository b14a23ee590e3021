-- The run of a static circuit's items is the run of a gate at a time of the laws of orders.
use Rattle.std.proofs.Common.{◌≡◌, ℕ, zero, suc, ◌+◌, ◌≤◌, Bool, true, false, ◌==◌, if◌then◌else◌, List, [], ◌∷◌, ◌++◌, length, take, Option, Some, slice_get, refl, ap, ap₂, sym, ◌∙◌, arith, eq-eqb, ne_eqb, append-nil, add-zero, zero-add, subst}
use Rattle.std.proofs.lemmas.Option.{same_Some, none-some, slice_get_within}
use Rattle.pauli_product.specs.Signed.{Signed}
use Rattle.pauli_product.specs.Pulls.{turn, half, pull}
use Rattle.pauli_product.specs.Corrections.{effective, corrections, turn_if}
use Rattle.source_model.specs.declared.Item.{Item}
use Rattle.source_model.specs.declared.Given.{Given}
use Rattle.source_model.specs.declared.Kind.{Kind}
use Rattle.source_model.specs.declared.Kind.TheVariants as kind
use Rattle.source_model.specs.declared.Static.{Static}
use Rattle.source_model.specs.Outcomes.{raw_of, x_of, bit_of}
use Rattle.source_model.specs.SourceRun.{Progress, fresh, turned, axis_in, flips, after, next_of, rest_of, axes_from, axes, progress_after}
use Rattle.source_model.specs.Statics.{item_of, static_items}
use Rattle.trace_laws.specs.Steps.{Step, act_writes}
use Rattle.trace_laws.specs.Runs.{Trace, executed_axis, bit_after_step, bit_below, plain, plain_next, source_axis, source_flip, flip_of}
use Rattle.trace_laws.specs.Runs as runs
use Rattle.trace_laws.proofs.Agree.{bits_agree, numbers_agree}
use Rattle.trace_laws.proofs.Plain.{source_axis_at}
use Rattle.board_core.specs.Orders.{act_of, steps_of}

-- a frame and a trace behind the first m products
pub record Tied (steps : List Step) (m : ℕ) (f : Progress) (t : Trace) : Type 0 where
  pub turns : f.turns ≡ t.turns
  pub bits : (b : ℕ) → bit_of f.writes b ≡ bit_below steps t.axes m b

-- a new executed axis
bits_next : (steps : List Step) (m : ℕ) (s : Step) (a : Signed) (done : List (ℕ × Signed)) (b : ℕ) → slice_get steps m ≡ Some s → bit_below steps ((m, a) ∷ done) (suc m) b ≡ (if act_writes s.act b then effective a (runs.raw_of_act s.act) else bit_below steps done m b)
bits_next steps m s a done b e =
    rw (e, eq-eqb m m refl)
    (ap (λ x. if act_writes s.act b then effective a (runs.raw_of_act s.act) else x) (bits_agree steps ((m, a) ∷ done) done m b (λ q s' l e' w. rw (ne_eqb m q (λ g. absurd (omega arith))) refl)))

abbrev pub step_at : Signed → Kind → Given → Step
step_at axis k g = record { axis = axis; act = act_of k g }

tied_next : (steps : List Step) (m : ℕ) (f : Progress) (t : Trace) (axis : Signed) (k : Kind) (g : Given) → slice_get steps m ≡ Some (step_at axis k g) → Tied steps m f t → Tied steps (suc m) (after f (item_of (record { axis = axis; kind = k })) g) (plain_next steps t m (Some (step_at axis k g)))
tied_next steps m f t axis kind.Rotation g e h = record {
  turns = ap (λ x. x ++ corrections (pull x axis) axis (raw_of g) (x_of g)) h.turns;
  bits = λ b. h.bits b ∙ sym (bits_next steps m (step_at axis kind.Rotation g) (pull t.turns axis) t.axes b e);
}
tied_next steps m f t axis (kind.Measure bit) g e h = record {
  turns = h.turns ∙ sym (append-nil t.turns);
  bits = λ b.
      ap₂ (λ x y. if bit == b then effective (pull x axis) (raw_of g) else y) h.turns (h.bits b)
      ∙ sym (bits_next steps m (step_at axis (kind.Measure bit) g) (pull t.turns axis) t.axes b e);
}
tied_next steps m f t axis (kind.Settle first size value) g e h =
    let same : flips f first size value ≡ runs.flips_in_order steps t m (act_of (kind.Settle first size value) g) =
    ap (λ n. n == value) (numbers_agree (bit_of f.writes) (bit_below steps t.axes m) first size (λ b l k. h.bits b)) in
    rw same (record {
      turns = added (runs.flips_in_order steps t m (act_of (kind.Settle first size value) g));
      bits = λ b. ap (λ w. bit_of w b) (kept (runs.flips_in_order steps t m (act_of (kind.Settle first size value) g))) ∙ h.bits b
          ∙ sym (bits_next steps m (step_at axis (kind.Settle first size value) g) (pull t.turns axis) t.axes b e);
    })
  where
    added : (x : Bool) → (if x then turned (turn axis half ∷ []) f else f).turns ≡ t.turns ++ turn_if x axis half
    added true = ap (λ y. y ++ turn axis half ∷ []) h.turns
    added false = h.turns ∙ sym (append-nil t.turns)

    kept : (x : Bool) → (if x then turned (turn axis half ∷ []) f else f).writes ≡ f.writes
    kept true = refl
    kept false = refl

-- ---- one item of a static circuit
pub progress_after_item : (f : Progress) (axis : Signed) (k : Kind) (is : List Item) (gs : List Given) → progress_after f (item_of (record { axis = axis; kind = k }) ∷ is) gs ≡ progress_after (after f (item_of (record { axis = axis; kind = k })) (next_of gs)) is (rest_of gs)
progress_after_item f axis kind.Rotation is gs = refl
progress_after_item f axis (kind.Measure bit) is gs = refl
progress_after_item f axis (kind.Settle first size value) is gs = refl

pub axes_from_item : (f : Progress) (axis : Signed) (k : Kind) (is : List Item) (gs : List Given) → axes_from f (item_of (record { axis = axis; kind = k }) ∷ is) gs ≡ axis_in f axis ∷ axes_from (after f (item_of (record { axis = axis; kind = k })) (next_of gs)) is (rest_of gs)
axes_from_item f axis kind.Rotation is gs = refl
axes_from_item f axis (kind.Measure bit) is gs = refl
axes_from_item f axis (kind.Settle first size value) is gs = refl

-- the axis of a product is found in the frame behind those before it
pub axis_in_frame : (f : Progress) (ss : List Static) (gs : List Given) (k : ℕ) (s : Static) → slice_get ss k ≡ Some s → slice_get (axes_from f (static_items ss) gs) k ≡ Some (axis_in (progress_after f (static_items (take k ss)) gs) s.axis)
axis_in_frame f [] gs k s e = absurd (none-some s e)
axis_in_frame f (x ∷ ss) gs zero s e = rw (axes_from_item f x.axis x.kind (static_items ss) gs) (ap (λ (y : Static). Some (axis_in f y.axis)) (same_Some x s e))
axis_in_frame f (x ∷ ss) gs (suc k) s e =
    rw (axes_from_item f x.axis x.kind (static_items ss) gs, progress_after_item f x.axis x.kind (static_items (take k ss)) gs)
    (axis_in_frame (after f (item_of x) (next_of gs)) ss (rest_of gs) k s e)

-- the frame behind the next k products
frame_tied : (steps : List Step) (m : ℕ) (f : Progress) (ss : List Static) (gs : List Given) (k : ℕ) → length gs ≡ length ss → k ≤ length ss → ((j : ℕ) → slice_get (steps_of ss gs) j ≡ slice_get steps (m + j)) → Tied steps m f (plain steps m) → Tied steps (m + k) (progress_after f (static_items (take k ss)) gs) (plain steps (m + k))
frame_tied steps m f ss gs zero e l h t = rw (add-zero m) t
frame_tied steps m f [] gs (suc k) e l h t = absurd (omega arith)
frame_tied steps m f (x ∷ ss) [] (suc k) e l h t = absurd (omega arith)
frame_tied steps m f (x ∷ ss) (g ∷ gs) (suc k) e l h t =
    let here : slice_get steps m ≡ Some (step_at x.axis x.kind g) = rw (add-zero m) at (sym (h zero)) in
    let next : Tied steps (suc m) (after f (item_of x) g) (plain steps (suc m)) =
    subst (λ (o : Option Step). Tied steps (suc m) (after f (item_of x) g) (plain_next steps (plain steps m) m o)) (sym here) (tied_next steps m f (plain steps m) x.axis x.kind g here t) in
    let there : suc m + k ≡ m + suc k = omega arith in
    rw (progress_after_item f x.axis x.kind (static_items (take k ss)) (g ∷ gs), ← there)
    (frame_tied steps (suc m) (after f (item_of x) g) ss gs k (omega arith) (omega arith) (λ j. h (suc j) ∙ ap (slice_get steps) (let n : m + suc j ≡ suc m + j = omega arith in n)) next)

-- ---- the whole run
begins : (products : List Static) (gs : List Given) (j : ℕ) → slice_get (steps_of products gs) j ≡ slice_get (steps_of products gs) (0 + j)
begins products gs j = ap (slice_get (steps_of products gs)) (sym (zero-add j))

pub tied_behind : (products : List Static) (gs : List Given) (p : ℕ) → length gs ≡ length products → p ≤ length products → Tied (steps_of products gs) p (progress_after fresh (static_items (take p products)) gs) (plain (steps_of products gs) p)
tied_behind products gs p e l =
    rw (zero-add p) at (frame_tied (steps_of products gs) zero fresh products gs p e l (begins products gs) (record { turns = refl; bits = λ b. refl }))

step_of : (products : List Static) (gs : List Given) (p : ℕ) (s : Static) → length gs ≡ length products → slice_get products p ≡ Some s → (g : Given) × (slice_get (steps_of products gs) p ≡ Some (step_at s.axis s.kind g))
step_of [] gs p s e f = absurd (none-some s f)
step_of (x ∷ ss) [] p s e f = absurd (omega arith)
step_of (x ∷ ss) (g ∷ gs) zero s e f = (g, ap (λ (y : Static). Some (step_at y.axis y.kind g)) (same_Some x s f))
step_of (x ∷ ss) (g ∷ gs) (suc p) s e f = step_of ss gs p s (omega arith) f

-- the axes of the static circuit's run are those of a gate at a time
pub axes_of_source : (products : List Static) (gs : List Given) (p : ℕ) (s : Static) → length gs ≡ length products → slice_get products p ≡ Some s → slice_get (axes (static_items products) gs) p ≡ source_axis (steps_of products gs) p
axes_of_source products gs p s e f =
    let there = step_of products gs p s e f in
    let t = tied_behind products gs p e (let l = slice_get_within products p s f in omega arith) in
    axis_in_frame fresh products gs p s f
    ∙ ap (λ x. Some (pull x s.axis)) t.turns
    ∙ sym (source_axis_at (steps_of products gs) p (step_at s.axis s.kind there.0) there.1)

-- and so are its flips
pub flips_of_source : (products : List Static) (gs : List Given) (p : ℕ) (s : Static) (first size value : ℕ) → length gs ≡ length products → slice_get products p ≡ Some s → s.kind ≡ kind.Settle first size value → flips (progress_after fresh (static_items (take p products)) gs) first size value ≡ source_flip (steps_of products gs) p
unfolding source_flip
flips_of_source products gs p s first size value e f k =
    let there = step_of products gs p s e f in
    let t = tied_behind products gs p e (let l = slice_get_within products p s f in omega arith) in
    let kinds = ap (λ x. flip_of (steps_of products gs) (plain (steps_of products gs) p) p (Some (step_at s.axis x there.0))) k in
    let flips_there = ap (λ o. flip_of (steps_of products gs) (plain (steps_of products gs) p) p o) there.1 in
    ap (λ n. n == value) (numbers_agree (bit_of (progress_after fresh (static_items (take p products)) gs).writes) (bit_below (steps_of products gs) (plain (steps_of products gs) p).axes p) first size (λ b l m. t.bits b))
    ∙ sym (flips_there ∙ kinds)
