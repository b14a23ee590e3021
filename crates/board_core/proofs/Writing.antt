-- The bits that are written, after one entry more.
use Rattle.std.proofs.Common.{◌≡◌, ℕ, ◌<◌, ◌≤◌, inl, inr, Bool, false, if◌then◌else◌, [], ◌∷◌, ◌++◌, Option, Some, None, is_some, refl, ap, sym, ◌∙◌, arith, eq-eqb, eqb-true}
use Rattle.std.proofs.lemmas.Bool.{true≢false}
use Rattle.pauli_product.specs.Signed.{Signed}
use Rattle.pauli_product.specs.Corrections.{effective}
use Rattle.source_model.specs.declared.Given.{Given}
use Rattle.source_model.specs.Outcomes.{raw_of}
use Rattle.board_core.specs.declared.Entry.{Entry}
use Rattle.board_core.specs.declared.Entry.TheVariants.{Deliver}
use Rattle.board_core.specs.History.{History, delivered, is_done_by, done_place}
use Rattle.board_core.specs.Legal.{BoardJob}
use Rattle.board_core.specs.View.{claimed_axis}
use Rattle.board_core.specs.inside.BitsNow.{WritesBit, HasOutcome, LastWritten}
use Rattle.board_core.proofs.Places.{or_else, claimed-append, delivered-append, delivered_done, done_stands, none_of}
use Rattle.board_core.proofs.Standings.{place_stays, some_push}

outcome_more : (h : History) (e : Entry) (q : ℕ) (v : Bool) → HasOutcome h q v → HasOutcome (h ++ e ∷ []) q v
outcome_more h e q v o =
    (o.0, o.1, claimed-append h (e ∷ []) q ∙ ap (λ x. or_else x (claimed_axis (e ∷ []) q)) o.2, delivered-append h (e ∷ []) q ∙ ap (λ x. or_else x (delivered (e ∷ []) q)) o.3, o.4)

-- an entry that does no writer of the bit
pub written_same : (j : BoardJob) (h : History) (e : Entry) (b : ℕ) (by : Option ℕ) (v : Bool) → ((q : ℕ) → WritesBit j b q → is_done_by q e ≡ false) → LastWritten j h b by v → LastWritten j (h ++ e ∷ []) b by v
written_same j h e b None v other x = (λ q w. place_stays (is_done_by q) h e (other q w) ∙ x.0 q w, x.1)
written_same j h e b (Some q) v other x =
    (x.0, outcome_more h e q v x.1, λ r w d. x.2 r w (ap is_some (sym (place_stays (is_done_by r) h e (other r w))) ∙ d))

module _ (j : BoardJob) (h : History) (b p : ℕ) (axis : Signed) (g : Given) (writes : WritesBit j b p) (claimed : claimed_axis h p ≡ Some axis) (once : done_place h p ≡ None) where
  undelivered : delivered h p ≡ None
  undelivered = none_of (delivered h p) (go (delivered h p) refl)
    where
      go : (o : Option Given) → delivered h p ≡ o → is_some (delivered h p) ≡ false
      go None e = ap is_some e
      go (Some x) e = absurd (true≢false (sym (done_stands h p ∙ delivered_done h p (ap is_some e)) ∙ ap is_some once))

  outcome_new : HasOutcome (h ++ Deliver p g ∷ []) p (effective axis (raw_of g))
  outcome_new = (
    axis,
    g,
    claimed-append h (Deliver p g ∷ []) p ∙ ap (λ x. or_else x (claimed_axis (Deliver p g ∷ []) p)) claimed,
    delivered-append h (Deliver p g ∷ []) p ∙ ap (λ x. or_else x (delivered (Deliver p g ∷ []) p)) undelivered ∙ ap (λ (b : Bool). elim (if b then Some g else None) [ None ↦ None | Some y ↦ Some y ]) (eq-eqb p p refl),
    refl,
  )

  -- the first writer of the bit, or one behind those that are done
  pub written_new : (by : Option ℕ) (v : Bool) → ((q : ℕ) → by ≡ Some q → q < p) → LastWritten j h b by v → LastWritten j (h ++ Deliver p g ∷ []) b (Some p) (effective axis (raw_of g))
  written_new None v below x = (
    writes,
    outcome_new,
    λ r w d. elim (some_push (is_done_by r) h (Deliver p g) d) [
      | inl y ↦ absurd (true≢false (sym y ∙ ap is_some (x.0 r w)))
      | inr y ↦ let e = eqb-true p r y in omega arith
    ],
  )
  written_new (Some q) v below x = (
    writes,
    outcome_new,
    λ r w d. elim (some_push (is_done_by r) h (Deliver p g) d) [
      | inl y ↦ let l = x.2 r w y in let m = below q refl in omega arith
      | inr y ↦ let e = eqb-true p r y in omega arith
    ],
  )

  -- one before a writer that is done
  pub written_before : (q : ℕ) (v : Bool) → p ≤ q → LastWritten j h b (Some q) v → LastWritten j (h ++ Deliver p g ∷ []) b (Some q) v
  written_before q v l x = (
    x.0,
    outcome_more h (Deliver p g) q v x.1,
    λ r w d. elim (some_push (is_done_by r) h (Deliver p g) d) [
      | inl y ↦ x.2 r w y
      | inr y ↦ let e = eqb-true p r y in omega arith
    ],
  )
