-- A product's axis in the source run depends on the outcomes before it alone.
use Rattle.std.proofs.Common.{◌≡◌, ℕ, zero, suc, ◌<◌, Bool, List, [], ◌∷◌, length, take, Some, slice_get, refl, ap, sym, ◌∙◌, arith, subst}
use Rattle.std.specs.Option.{unwrap_or}
use Rattle.std.proofs.lemmas.Option.{same_Some, slice_get_within}
use Rattle.pauli_product.specs.Signed.{Signed}
use Rattle.source_model.specs.declared.Given.{Given}
use Rattle.source_model.specs.declared.Kind.{Kind}
use Rattle.source_model.specs.declared.Kind.TheVariants as kind
use Rattle.source_model.specs.declared.Static.{Static}
use Rattle.source_model.specs.SourceRun.{Progress, fresh, axis_in, flips, after, next_of, rest_of, axes_from, axes, progress_after}
use Rattle.source_model.specs.Statics.{item_of, static_items}
use Rattle.board_core.specs.History.{History, delivered, known, zero_of}
use Rattle.board_core.specs.Legal.{BoardJob, AxisOf, FlipOf}
use Rattle.board_core.specs.Laws.{Delivers, DeliversBelow}
use Rattle.board_core.proofs.SourceOrder.{progress_after_item, axes_from_item, axis_in_frame}
use Rattle.board_core.proofs.Tables.{known_length, known_at, entry_of}

-- outcomes that leave the same, for a product of this kind
abbrev Alike : Kind → Given → Given → Type 0
Alike kind.Rotation g g' = g ≡ g'
Alike (kind.Measure bit) g g' = g ≡ g'
Alike (kind.Settle first size value) g g' = Unit {0}

after_alike : (f : Progress) (axis : Signed) (k : Kind) (g g' : Given) → Alike k g g' → after f (item_of (record { axis = axis; kind = k })) g ≡ after f (item_of (record { axis = axis; kind = k })) g'
after_alike f axis kind.Rotation g g' e = ap (after f (item_of (record { axis = axis; kind = kind.Rotation }))) e
after_alike f axis (kind.Measure bit) g g' e = ap (after f (item_of (record { axis = axis; kind = kind.Measure bit }))) e
after_alike f axis (kind.Settle first size value) g g' e = refl

progress_alike : (f : Progress) (ss : List Static) (gs gs' : List Given) (k : ℕ) → length gs ≡ length ss → length gs' ≡ length ss → ((q : ℕ) (s : Static) (g g' : Given) → q < k → slice_get ss q ≡ Some s → slice_get gs q ≡ Some g → slice_get gs' q ≡ Some g' → Alike s.kind g g') → progress_after f (static_items (take k ss)) gs ≡ progress_after f (static_items (take k ss)) gs'
progress_alike f ss gs gs' zero l l' same = refl
progress_alike f [] gs gs' (suc k) l l' same = refl
progress_alike f (s ∷ ss) [] gs' (suc k) l l' same = absurd (omega arith)
progress_alike f (s ∷ ss) (g ∷ gs) [] (suc k) l l' same = absurd (omega arith)
progress_alike f (s ∷ ss) (g ∷ gs) (g' ∷ gs') (suc k) l l' same =
    progress_after_item f s.axis s.kind (static_items (take k ss)) (g ∷ gs)
    ∙ ap (λ x. progress_after x (static_items (take k ss)) gs) (after_alike f s.axis s.kind g g' (same zero s g g' (omega arith) refl refl refl))
    ∙ progress_alike (after f (item_of s) g') ss gs gs' k (omega arith) (omega arith) (λ q t x x' m. same (suc q) t x x' (omega arith))
    ∙ sym (progress_after_item f s.axis s.kind (static_items (take k ss)) (g' ∷ gs'))

axes_length : (f : Progress) (ss : List Static) (gs : List Given) → length (axes_from f (static_items ss) gs) ≡ length ss
axes_length f [] gs = refl
axes_length f (s ∷ ss) gs = ap length (axes_from_item f s.axis s.kind (static_items ss) gs) ∙ ap suc (axes_length (after f (item_of s) (next_of gs)) ss (rest_of gs))

-- the table and the known outcomes, below p
known_alike : (j : BoardJob) (h : History) (table : List Given) (p : ℕ) → DeliversBelow j h table p → (q : ℕ) (s : Static) (g g' : Given) → q < p → slice_get j.products q ≡ Some s → slice_get table q ≡ Some g → slice_get (known j.products h) q ≡ Some g' → Alike s.kind g g'
known_alike j h table p below q s g g' l e f f' =
    go s.kind (below q s g l e f) (same_Some (unwrap_or (delivered h q) (zero_of s.kind)) g' (sym (known_at j.products h q s e) ∙ f'))
  where
    go : (k : Kind) → Delivers h q g k → unwrap_or (delivered h q) (zero_of k) ≡ g' → Alike k g g'
    go kind.Rotation d u = rw d at u
    go (kind.Measure bit) d u = rw d at u
    go (kind.Settle first size value) d u = tt

known_progress : (j : BoardJob) (h : History) (table : List Given) (p : ℕ) → length table ≡ length j.products → DeliversBelow j h table p → progress_after fresh (static_items (take p j.products)) table ≡ progress_after fresh (static_items (take p j.products)) (known j.products h)
known_progress j h table p l below = progress_alike fresh j.products table (known j.products h) p l (known_length j.products h) (known_alike j h table p below)

pub axis_known : (j : BoardJob) (h : History) (table : List Given) (p : ℕ) (axis : Signed) → length table ≡ length j.products → DeliversBelow j h table p → slice_get (axes (static_items j.products) table) p ≡ Some axis → AxisOf j h p axis
axis_known j h table p axis l below e =
    let inside : p < length j.products = subst (λ n. p < n) (axes_length fresh j.products table) (slice_get_within (axes (static_items j.products) table) p axis e) in
    let s = entry_of j.products p inside in
    axis_in_frame fresh j.products (known j.products h) p s.0 s.1
    ∙ ap (λ f. Some (axis_in f s.0.axis)) (sym (known_progress j h table p l below))
    ∙ sym (axis_in_frame fresh j.products table p s.0 s.1)
    ∙ e

pub flip_known : (j : BoardJob) (h : History) (table : List Given) (p : ℕ) (s : Static) (first size value : ℕ) (flip : Bool) → length table ≡ length j.products → DeliversBelow j h table p → slice_get j.products p ≡ Some s → s.kind ≡ kind.Settle first size value → flips (progress_after fresh (static_items (take p j.products)) table) first size value ≡ flip → FlipOf j h p flip
flip_known j h table p s first size value flip l below e k f =
    (s, first, size, value, e, k, ap (λ x. flips x first size value) (sym (known_progress j h table p l below)) ∙ f)
