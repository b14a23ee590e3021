-- Where all products are done, and all claimed ones are delivered and released, the history is complete.
use Rattle.std.proofs.Common.{◌≡◌, ◌⊎◌, inl, inr, ℕ, zero, suc, ◌+◌, List, [], ◌∷◌, length, slice_get, unwrap_or, Option, Some, None, IsSome, refl, ap, sym, ◌∙◌, subst, arith}
use Rattle.std.proofs.lemmas.Option.{same_Some, none-some, slice_get_within}
use Rattle.source_model.specs.declared.Given.{Given}
use Rattle.source_model.specs.declared.Kind.{Kind}
use Rattle.source_model.specs.declared.Kind.TheVariants as kind
use Rattle.source_model.specs.declared.Static.{Static}
use Rattle.board_core.specs.declared.Entry.TheVariants.{Deliver}
use Rattle.board_core.specs.Books.{TakesRegion}
use Rattle.board_core.specs.History.{History, claim_place, delivered, done_place, release_place}
use Rattle.board_core.specs.Legal.{BoardJob, Complete, CompleteAt}
use Rattle.board_core.specs.Position.{Position, past, IsLegal}
use Rattle.board_core.proofs.Places.{or_else, some_of, delivered-append}
use Rattle.board_core.proofs.LegalOrder.{delivered_at}
use Rattle.finish_run.specs.Next.{Meeting, IsIdle}
use Rattle.finish_run.specs.Finished.{GoesOn, own_from, own_or_given}
use Rattle.finish_run.specs.inside.Finished.{DoneBelow}
use Rattle.finish_run.proofs.Onward.{goes_job, goes_past}
use Rattle.finish_run.proofs.Past.{delivered_is, done_is, some_or_none}

-- ---- the table
own_at : (k : ℕ) (h : History) (gs : List Given) (p : ℕ) (g : Given) → slice_get (own_from k h gs) p ≡ Some g → (x : Given) × (slice_get gs p ≡ Some x) × (g ≡ unwrap_or (delivered h (k + p)) x)
own_at k h [] p g e = absurd (none-some g e)
own_at k h (x ∷ gs) zero g e = (x, refl, sym (same_Some (unwrap_or (delivered h k) x) g e) ∙ ap (λ (n : ℕ). unwrap_or (delivered h n) x) (let z : k ≡ k + 0 = omega arith in z))
own_at k h (x ∷ gs) (suc p) g e =
    let r = own_at (k + 1) h gs p g e in
    (r.0, r.1, r.2 ∙ ap (λ (n : ℕ). unwrap_or (delivered h n) r.0) (let z : k + 1 + p ≡ k + suc p = omega arith in z))

-- what a delivered product has is what the table says
module _ (M : Meeting) (gs : List Given) (b c : Position) (goes : GoesOn M gs b c) where
  both : (p : ℕ) → delivered (past c) p ≡ or_else (delivered (past b) p) (delivered goes.added p)
  both p = ap (λ (h : History). delivered h p) (goes_past M gs b c goes) ∙ delivered-append (past b) goes.added p

  added_given : (p : ℕ) (y : Given) → delivered goes.added p ≡ Some y → slice_get gs p ≡ Some y
  added_given p y e = let at = delivered_at goes.added p y e in (goes.next at.0 (Deliver p y) at.1).1

  table_says : (p : ℕ) (x g y : Given) → slice_get gs p ≡ Some x → g ≡ unwrap_or (delivered (past b) p) x → delivered (past c) p ≡ Some y → delivered (past c) p ≡ Some g
  table_says p x g y at is has = go (delivered (past b) p) refl
    where
      go : (o : Option Given) → delivered (past b) p ≡ o → delivered (past c) p ≡ Some g
      go (Some z) e = both p ∙ ap (λ (o : Option Given). or_else o (delivered goes.added p)) e ∙ ap (λ (w : Given). Some w) (sym (is ∙ ap (λ (o : Option Given). unwrap_or o x) e))
      go None e =
          let here : delivered goes.added p ≡ Some y = sym (ap (λ (o : Option Given). or_else o (delivered goes.added p)) e) ∙ sym (both p) ∙ has in
          let same : y ≡ x = same_Some y x (sym (added_given p y here) ∙ at) in
          has ∙ ap (λ (w : Given). Some w) (same ∙ sym (is ∙ ap (λ (o : Option Given). unwrap_or o x) e))

-- ---- completeness
at_kind : (k : Kind) (h : History) (p : ℕ) (g : Given) → (TakesRegion k → IsSome (claim_place h p) × (delivered h p ≡ Some g) × IsSome (release_place h p)) → IsSome (done_place h p) → CompleteAt h p g k
at_kind kind.Rotation h p g x done = x tt
at_kind (kind.Measure bit) h p g x done = x tt
at_kind (kind.Settle first size value) h p g x done = done

was_delivered : (j : BoardJob) (h : History) (p : ℕ) (s t : Static) → slice_get j.products p ≡ Some s → slice_get j.products p ≡ Some t → IsSome (delivered h p) ⊎ (TakesRegion t.kind → ⊥) → TakesRegion s.kind → IsSome (delivered h p)
was_delivered j h p s t e f (inl x) region = x
was_delivered j h p s t e f (inr without) region = absurd (without (subst (λ (z : Static). TakesRegion z.kind) (same_Some s t (sym e ∙ f)) region))

pub complete : (M : Meeting) (gs : List Given) (b c : Position) → GoesOn M gs b c → IsLegal c → IsIdle (past c) → DoneBelow (past c) (length b.job.products) → Complete c.job (past c) (own_or_given (past b) gs)
complete M gs b c goes legal idle done p s g product table =
    let same : length c.job.products ≡ length b.job.products = ap (λ (j : BoardJob). length j.products) (goes_job M gs b c goes) in
    let within = slice_get_within c.job.products p s product in
    let here = done p (omega (arith, same, within)) in
    let how = done_is c.job (past c) p legal.legal here in
    let own = own_at 0 (past b) gs p g table in
    let value : g ≡ unwrap_or (delivered (past b) p) own.0 = own.2 ∙ ap (λ (n : ℕ). unwrap_or (delivered (past b) n) own.0) (let z : 0 + p ≡ p = omega arith in z) in
    at_kind s.kind (past c) p g
    (λ region.
    let was = was_delivered c.job (past c) p s how.0 product how.1 how.2 region in
    let y = some_of (delivered (past c) p) was in (
      (delivered_is c.job (past c) p legal.legal was).0,
      table_says M gs b c goes p own.0 g y.0 own.1 value y.1,
      elim (some_or_none (release_place (past c) p)) [ inl x ↦ x | inr n ↦ absurd (idle.1 p (was, n)) ],
    ))
    here

pub done_same : (M : Meeting) (gs : List Given) (b c : Position) (h : History) → GoesOn M gs b c → DoneBelow h (length c.job.products) → DoneBelow h (length b.job.products)
done_same M gs b c h goes done = subst (λ (j : BoardJob). DoneBelow h (length j.products)) (goes_job M gs b c goes) done
