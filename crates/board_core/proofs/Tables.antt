-- Products with a table of outcomes, as the laws of orders see them.
use Rattle.std.proofs.Common.{◌≡◌, ℕ, zero, suc, ◌+◌, ◌<◌, ◌&&◌, not, List, [], ◌∷◌, length, map, Some, slice_get, refl, ap, ap₂, sym, ◌∙◌, arith, add-zero, zero-add}
use Rattle.std.specs.Option.{unwrap_or}
use Rattle.std.proofs.lemmas.Option.{same_Some, none-some, slice_get_within}
use Rattle.std.proofs.lemmas.List.Elements.{All-nil, All-cons, All-head, All-tail}
use Rattle.pauli_product.specs.Signed.{OfLength}
use Rattle.source_model.specs.declared.Given.{Given}
use Rattle.source_model.specs.declared.Kind.{Kind}
use Rattle.source_model.specs.declared.Kind.TheVariants as kind
use Rattle.source_model.specs.declared.Static.{Static}
use Rattle.source_model.specs.Statics.{commuting}
use Rattle.source_model.specs.Statics as statics
use Rattle.trace_laws.specs.Steps.{Act, Step, StepsOfLength, axes_commute, both, pass}
use Rattle.trace_laws.specs.Steps as steps
use Rattle.trace_laws.proofs.Ready.{bare, bare_act}
use Rattle.board_core.specs.History.{History, delivered, zero_of, known, known_from}
use Rattle.board_core.specs.Orders.{act_of, steps_of}
use Rattle.board_core.specs.Laws.{ProductsOfLength}
use Rattle.board_core.proofs.SourceOrder.{step_at}

pub length_steps : (ss : List Static) (gs : List Given) → length gs ≡ length ss → length (steps_of ss gs) ≡ length ss
length_steps [] gs e = refl
length_steps (s ∷ ss) [] e = absurd (omega arith)
length_steps (s ∷ ss) (g ∷ gs) e = ap suc (length_steps ss gs (omega arith))

pub steps_of_length : (n : ℕ) (ss : List Static) (gs : List Given) → ProductsOfLength n ss → StepsOfLength n (steps_of ss gs)
steps_of_length n [] gs h = All-nil (λ s. OfLength n s.axis)
steps_of_length n (s ∷ ss) [] h = All-nil (λ s. OfLength n s.axis)
steps_of_length n (s ∷ ss) (g ∷ gs) h = All-cons (λ s. OfLength n s.axis) (step_at s.axis s.kind g) (steps_of ss gs) (All-head (λ s. OfLength n s.axis) s ss h) (steps_of_length n ss gs (All-tail (λ s. OfLength n s.axis) s ss h))

-- the step of a product, with its outcome
pub step_with : (ss : List Static) (gs : List Given) (p : ℕ) (s : Static) (g : Given) → slice_get ss p ≡ Some s → slice_get gs p ≡ Some g → slice_get (steps_of ss gs) p ≡ Some (step_at s.axis s.kind g)
step_with [] gs p s g e f = absurd (none-some s e)
step_with (x ∷ ss) [] p s g e f = absurd (none-some g f)
step_with (x ∷ ss) (y ∷ gs) zero s g e f = ap₂ (λ (z : Static) w. Some (step_at z.axis z.kind w)) (same_Some x s e) (same_Some y g f)
step_with (x ∷ ss) (y ∷ gs) (suc p) s g e f = step_with ss gs p s g e f

-- products without outcomes don't depend on the table
bare_kind : (k : Kind) (g g' : Given) → bare_act (act_of k g) ≡ bare_act (act_of k g')
bare_kind kind.Rotation g g' = refl
bare_kind (kind.Measure bit) g g' = refl
bare_kind (kind.Settle first size value) g g' = refl

pub bare_steps : (ss : List Static) (gs gs' : List Given) → length gs ≡ length ss → length gs' ≡ length ss → map bare (steps_of ss gs) ≡ map bare (steps_of ss gs')
bare_steps [] gs gs' e f = refl
bare_steps (s ∷ ss) [] gs' e f = absurd (omega arith)
bare_steps (s ∷ ss) (g ∷ gs) [] e f = absurd (omega arith)
bare_steps (s ∷ ss) (g ∷ gs) (g' ∷ gs') e f = ap₂ (λ a l. record { axis = s.axis; act = a } ∷ l) (bare_kind s.kind g g') (bare_steps ss gs gs' (omega arith) (omega arith))

-- ---- the outcomes that a history delivers
known_length_from : (p : ℕ) (ss : List Static) (h : History) → length (known_from p ss h) ≡ length ss
known_length_from p [] h = refl
known_length_from p (s ∷ ss) h = ap suc (known_length_from (p + 1) ss h)

pub known_length : (ss : List Static) (h : History) → length (known ss h) ≡ length ss
known_length ss h = known_length_from 0 ss h

known_at_from : (p : ℕ) (ss : List Static) (h : History) (k : ℕ) (s : Static) → slice_get ss k ≡ Some s → slice_get (known_from p ss h) k ≡ Some (unwrap_or (delivered h (p + k)) (zero_of s.kind))
known_at_from p [] h k s e = absurd (none-some s e)
known_at_from p (x ∷ ss) h zero s e = ap₂ (λ n (y : Static). Some (unwrap_or (delivered h n) (zero_of y.kind))) (sym (add-zero p)) (same_Some x s e)
known_at_from p (x ∷ ss) h (suc k) s e =
    known_at_from (p + 1) ss h k s e ∙ ap (λ n. Some (unwrap_or (delivered h n) (zero_of s.kind))) (let n : (p + 1) + k ≡ p + suc k = omega arith in n)

pub known_at : (ss : List Static) (h : History) (p : ℕ) (s : Static) → slice_get ss p ≡ Some s → slice_get (known ss h) p ≡ Some (unwrap_or (delivered h p) (zero_of s.kind))
known_at ss h p s e = known_at_from 0 ss h p s e ∙ ap (λ n. Some (unwrap_or (delivered h n) (zero_of s.kind))) (zero-add p)

-- ---- commuting
same_reads : (k : Kind) (g : Given) (b : ℕ) → steps.act_reads (act_of k g) b ≡ statics.reads k b
same_reads kind.Rotation g b = refl
same_reads (kind.Measure bit) g b = refl
same_reads (kind.Settle first size value) g b = refl

same_reads_from : (k : Kind) (g : Given) (k' : Kind) (g' : Given) → steps.act_reads_from (act_of k g) (act_of k' g') ≡ statics.reads_from k k'
same_reads_from k g kind.Rotation g' = refl
same_reads_from k g (kind.Measure bit) g' = same_reads k g bit
same_reads_from k g (kind.Settle first size value) g' = refl

pub same_commuting : (s t : Static) (g g' : Given) → steps.commuting (step_at s.axis s.kind g) (step_at t.axis t.kind g') ≡ commuting s t
same_commuting s t g g' = ap₂ (λ x y. axes_commute (step_at s.axis s.kind g) (step_at t.axis t.kind g') && not x && not y) (same_reads_from s.kind g t.kind g') (same_reads_from t.kind g' s.kind g)

-- an entry of a list, where there is one
pub entry_of : {A : Type 0} (xs : List A) (k : ℕ) → k < length xs → (x : A) × (slice_get xs k ≡ Some x)
entry_of [] k l = absurd (omega arith)
entry_of (x ∷ xs) zero l = (x, refl)
entry_of (x ∷ xs) (suc k) l = entry_of xs k (omega arith)

pub steps_commute : (ss : List Static) (gs : List Given) (p q : ℕ) (s t : Static) → length gs ≡ length ss → slice_get ss p ≡ Some s → slice_get ss q ≡ Some t → pass steps.commuting (steps_of ss gs) p q ≡ commuting s t
unfolding pass
steps_commute ss gs p q s t e f k =
    let g = entry_of gs p (let l = slice_get_within ss p s f in omega arith) in
    let g' = entry_of gs q (let l = slice_get_within ss q t k in omega arith) in
    rw (step_with ss gs p s g.0 f g.1, step_with ss gs q t g'.0 k g'.1) (same_commuting s t g.0 g'.0)
