-- In a legal history a cell has one holder, and a state is taken once.
use Rattle.std.proofs.Common.{◌≡◌, ◌≢◌, ℕ, zero, suc, ◌+◌, ◌<◌, Bool, true, false, ◌==◌, ◌&&◌, not, List, [], ◌∷◌, ◌++◌, length, Option, Some, None, get_or, slice_get, refl, ap, sym, ◌∙◌, arith, append-nil, append_assoc, if◌then◌else◌, inl, inr}
use Rattle.std.specs.List.{AllPairs}
use Rattle.std.proofs.lemmas.Bool.{and_parts, or_parts, true≢false, cases_order, eqb-false}
use Rattle.std.proofs.lemmas.Option.{same_Some, none-some}
use Rattle.std.proofs.lemmas.Grind.{flat_map-append}
use Rattle.std.proofs.lemmas.List.{take_at}
use Rattle.std.proofs.lemmas.List.Quantifiers.{all_pairs_push}
use Rattle.magic_pool.specs.Recount.{is_taken, ready_from, first_of_list}
use Rattle.source_model.specs.declared.Kind.{Kind}
use Rattle.source_model.specs.declared.Kind.TheVariants as kind
use Rattle.board_core.specs.declared.Entry.{Entry}
use Rattle.board_core.specs.declared.Entry.TheVariants.{Claim, Deliver, Release, Settle}
use Rattle.board_core.specs.declared.Entry.TheVariants as entry
use Rattle.board_core.specs.History.{History, states_in, taken_states, is_release_of}
use Rattle.board_core.specs.Legal.{BoardJob, Allowed, Legal, Holds, TakesState}
use Rattle.board_core.proofs.LegalOrder.{at_end}
use Rattle.board_core.proofs.Going.{get_take, none_take}

-- ---- cells
-- who holds a cell claimed no later than another one who does
earlier : (j : BoardJob) (h : History) (p q c : ℕ) (x : Holds j.grid h p c) (y : Holds j.grid h q c) → Legal j h → x.0 < y.0 → ⊥
earlier j h p q c x y legal l =
    let a = legal y.0 (Claim q y.1 y.2 y.3 y.4) y.5 in
    a.free c p y.7 (x.0, x.1, x.2, x.3, x.4, get_take h y.0 x.0 l ∙ x.5, none_take (is_release_of p) h y.0 x.6, x.7)

same_claim : (h : History) (x y : ℕ) (e f : Entry) → x ≡ y → slice_get h x ≡ Some e → slice_get h y ≡ Some f → e ≡ f
same_claim h x y e f s g k = same_Some e f (sym g ∙ ap (slice_get h) s ∙ k)

abbrev pub claimer : Entry → ℕ
claimer (Claim p axis through state cells) = p
claimer (Deliver p g) = p
claimer (Release p) = p
claimer (entry.Step f) = f
claimer (Settle p flip) = p

pub one_holder : (j : BoardJob) (h : History) (p q c : ℕ) → Legal j h → Holds j.grid h p c → Holds j.grid h q c → p ≡ q
one_holder j h p q c legal x y =
    elim (cases_order x.0 y.0) [
      | inl s ↦ ap claimer (same_claim h x.0 y.0 (Claim p x.1 x.2 x.3 x.4) (Claim q y.1 y.2 y.3 y.4) s x.5 y.5)
      | inr (inl l) ↦ absurd (earlier j h p q c x y legal l)
      | inr (inr l) ↦ absurd (earlier j h q p c y x legal l)
    ]

-- ---- states
first_untaken : (n : ℕ) (ms taken : List ℕ) (f s : ℕ) → first_of_list (ready_from n ms taken f) ≡ Some s → is_taken taken s ≡ false
first_untaken n [] taken f s e = absurd (none-some s e)
first_untaken n (m ∷ ms) taken f s e = first_of (m == f && not (is_taken taken n)) refl (first_untaken (n + 1) ms taken f s) e
  where
    untrue : (b : Bool) → not b ≡ true → b ≡ false
    untrue true x = absurd (true≢false (sym x))
    untrue false x = refl

    first_of : (b : Bool) → (m == f && not (is_taken taken n)) ≡ b → (first_of_list (ready_from (n + 1) ms taken f) ≡ Some s → is_taken taken s ≡ false) → first_of_list (if b then (n ∷ ready_from (n + 1) ms taken f) else ready_from (n + 1) ms taken f) ≡ Some s → is_taken taken s ≡ false
    first_of true here rest k = rw (same_Some n s k) at (untrue (is_taken taken n) ((and_parts (m == f) (not (is_taken taken n)) here).1))
    first_of false here rest k = rest k

not_taken : (ts : List ℕ) (s : ℕ) → is_taken ts s ≡ false → (k d : ℕ) → k < length ts → get_or ts k d ≢ s
not_taken [] s e k d l = absurd (omega arith)
not_taken (t ∷ ts) s e zero d l = eqb-false t s ((or_parts (t == s) (is_taken ts s) e).0)
not_taken (t ∷ ts) s e (suc k) d l = not_taken ts s ((or_parts (t == s) (is_taken ts s) e).1) k d (omega arith)

abbrev Once : List ℕ → Type 0
Once ss = AllPairs (λ s t. s ≢ t) ss

state_once : (j : BoardJob) (h : History) (k : Kind) (through : Option ℕ) (s : ℕ) → TakesState j h k through (Some s) → Once (taken_states h) → Once (taken_states h ++ s ∷ [])
state_once j h kind.Rotation through s t once =
    let e = same_Some s t.1 t.3 in
    all_pairs_push (λ s t. s ≢ t) (taken_states h) s once
    (not_taken (taken_states h) s (rw e (first_untaken 0 _ (taken_states h) t.0 t.1 t.4)))
state_once j h (kind.Measure bit) through s t once = absurd (none-some s (sym t.1))
state_once j h (kind.Settle first size value) through s t once = absurd t

one_more_once : (j : BoardJob) (h : History) (e : Entry) → Allowed j h e → Once (taken_states h) → Once (taken_states h ++ states_in e)
one_more_once j h (Claim p axis through None cells) a once = rw (append-nil (taken_states h)) once
one_more_once j h (Claim p axis through (Some s) cells) a once = state_once j h a.product.0.kind through s a.product.2 once
one_more_once j h (Deliver p g) a once = rw (append-nil (taken_states h)) once
one_more_once j h (Release p) a once = rw (append-nil (taken_states h)) once
one_more_once j h (entry.Step f) a once = rw (append-nil (taken_states h)) once
one_more_once j h (Settle p flip) a once = rw (append-nil (taken_states h)) once

pub taken-push : (h : History) (e : Entry) → taken_states (h ++ e ∷ []) ≡ taken_states h ++ states_in e
taken-push h e = flat_map-append states_in h (e ∷ []) ∙ ap (λ x. taken_states h ++ x) (append-nil (states_in e))

once_on : (j : BoardJob) (h es : History) → Legal j (h ++ es) → Once (taken_states h) → Once (taken_states (h ++ es))
once_on j h [] legal once = rw (append-nil h) once
once_on j h (e ∷ es) legal once =
    let more : (h ++ e ∷ []) ++ es ≡ h ++ e ∷ es = append_assoc h (e ∷ []) es in
    let here : Allowed j h e = rw (take_at h (e ∷ es) (length h) refl) at (legal (length h) e (at_end h e es)) in
    rw more at (once_on j (h ++ e ∷ []) es (rw more legal) (rw (taken-push h e) (one_more_once j h e here once)))

pub states_once : (j : BoardJob) (h : History) → Legal j h → Once (taken_states h)
states_once j h legal = once_on j [] h legal (λ i k d l m. absurd (omega arith))
