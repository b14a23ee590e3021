-- The frame of a legal history, and what holds a product back.
use Rattle.std.proofs.Common.{◌≡◌, ℕ, ◌<◌, ◌⊎◌, inl, inr, true, false, [], Some, None, length, IsSome, slice_get, sym, ◌∙◌}
use Rattle.std.proofs.lemmas.Bool.{or_cases, true≢false}
use Rattle.pauli_product.specs.Signed.{Signed}
use Rattle.pauli_product.specs.Pulls.{carry}
use Rattle.source_model.specs.declared.Static.{Static}
use Rattle.source_model.specs.Statics.{commuting}
use Rattle.trace_laws.specs.Steps.{pass}
use Rattle.trace_laws.specs.Steps as steps
use Rattle.trace_laws.specs.Orders.{stands}
use Rattle.trace_laws.proofs.Ready.{waiting_closed}
use Rattle.board_core.specs.History.{History, claim_place, done_place, known}
use Rattle.board_core.specs.Legal.{BoardJob, AxisOf, Ready, Legal}
use Rattle.board_core.specs.Orders.{done_of, steps_of}
use Rattle.board_core.specs.View.{claimed_axis, turns_of}
use Rattle.board_core.specs.Laws.{ProductsOfLength}
use Rattle.board_core.proofs.Places.{done_stands, claimed_place, some_of}
use Rattle.board_core.proofs.Tables.{known_length, steps_commute}
use Rattle.board_core.proofs.LegalOrder.{known_agrees, legal_sound, legal_held, legal_look}

pub axis_stays : (n : ℕ) (j : BoardJob) (h : History) (p : ℕ) (axis : Signed) (s : Static) → ProductsOfLength n j.products → Legal j h → slice_get j.products p ≡ Some s → claimed_axis h p ≡ Some axis → done_place h p ≡ None → carry (turns_of j.products h) s.axis ≡ axis
axis_stays n j h p axis s long legal e f once = legal_held n j (known j.products h) long (known_length j.products h) h p axis s legal (known_agrees j h legal) e f once

pub frame_is_source : (n : ℕ) (j : BoardJob) (h : History) (p : ℕ) (s : Static) → ProductsOfLength n j.products → Legal j h → slice_get j.products p ≡ Some s → done_place h p ≡ None → Ready j h p → AxisOf j h p (carry (turns_of j.products h) s.axis)
frame_is_source n j h p s long legal e once ready = legal_look n j (known j.products h) long (known_length j.products h) h p s legal (known_agrees j h legal) e once ready

-- what a claimed or done product waits for is done
pub waited_done : (n : ℕ) (j : BoardJob) (h : History) (k p : ℕ) (t u : Static) → ProductsOfLength n j.products → Legal j h → k < p → slice_get j.products k ≡ Some t → slice_get j.products p ≡ Some u → commuting t u ≡ false → IsSome (claim_place h p) ⊎ IsSome (done_place h p) → stands k (done_of h) ≡ true
waited_done n j h k p t u long legal l e f apart (inl claimed) =
    let gs = known j.products h in
    let inv = legal_sound n j gs long (known_length j.products h) h legal (known_agrees j h legal) in
    let c = some_of (claimed_axis h p) (sym (claimed_place h p) ∙ claimed) in
    (inv.claims p c.0 c.1).waited k l (steps_commute j.products gs k p t u (known_length j.products h) e f ∙ apart)
waited_done n j h k p t u long legal l e f apart (inr done) =
    let gs = known j.products h in
    let inv = legal_sound n j gs long (known_length j.products h) h legal (known_agrees j h legal) in
    elim (or_cases (stands k (done_of h)) false (waiting_closed (pass steps.commuting (steps_of j.products gs)) (length (steps_of j.products gs)) [] (done_of h) p k inv.waits (sym (done_stands h p) ∙ done) l (steps_commute j.products gs k p t u (known_length j.products h) e f ∙ apart))) [
      | inl x ↦ x
      | inr x ↦ absurd (true≢false (sym x))
    ]

pub third_holds : (n : ℕ) (j : BoardJob) (h : History) (i k p : ℕ) (s t u : Static) → ProductsOfLength n j.products → Legal j h → i < k → k < p → slice_get j.products i ≡ Some s → slice_get j.products k ≡ Some t → slice_get j.products p ≡ Some u → commuting s t ≡ false → commuting t u ≡ false → IsSome (claim_place h p) ⊎ IsSome (done_place h p) → IsSome (done_place h i)
third_holds n j h i k p s t u long legal l m e f g apart apart' held =
    let there = waited_done n j h k p t u long legal m f g apart' held in
    done_stands h i ∙ waited_done n j h i k s t long legal l e f apart (inr (done_stands h k ∙ there))
