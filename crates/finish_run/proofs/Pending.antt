-- Outcomes of what is claimed, and releases of what is delivered.
use Rattle.std.proofs.Common.{◌≡◌, ◌⊎◌, inl, inr, ℕ, zero, suc, ◌+◌, ◌<◌, ◌≤◌, Bool, true, false, List, [], ◌∷◌, ◌++◌, length, slice_get, Some, None, IsSome, refl, ap, sym, ◌∙◌, subst, arith, eq-eqb, eqb-true, is_some, ◌==◌, if◌then◌else◌}
use Rattle.std.proofs.lemmas.Bool.{true≢false, cases_order}
use Rattle.std.proofs.lemmas.Option.{same_Some, none-some, slice_get_within}
use Rattle.source_model.specs.declared.Given.{Given}
use Rattle.source_model.specs.declared.Given.TheVariants as given
use Rattle.source_model.specs.declared.Kind.{Kind}
use Rattle.source_model.specs.declared.Kind.TheVariants as kind
use Rattle.source_model.specs.declared.Static.{Static}
use Rattle.source_model.specs.Circuits.{IsOutcomeOf}
use Rattle.patch_layout.specs.Openness.{Least}
use Rattle.board_core.specs.declared.Entry.{Entry}
use Rattle.board_core.specs.declared.Entry.TheVariants.{Deliver, Release}
use Rattle.board_core.specs.History.{History, delivered}
use Rattle.board_core.specs.Legal.{BoardJob, Legal}
use Rattle.board_core.specs.Books.{TakesRegion}
use Rattle.board_core.specs.Position.{Position, past, with_entry, IsLegal}
use Rattle.board_core.specs.Causes.{EntryOf, IsDeliverable}
use Rattle.source_model.specs.Statics.{AreOutcomesOf}
use Rattle.finish_run.specs.Next.{Meeting, IsPending, IsUnreleased, NoneIs}
use Rattle.finish_run.specs.inside.Next.{NoneBelow}
use Rattle.finish_run.specs.Finished.{GoesOn}
use Rattle.finish_run.proofs.Onward.{goes_job, goes_one}
use Rattle.finish_run.proofs.Past.{past_push, pending_push, unreleased_push, claimed_product, delivered_is}

-- ---- outcomes
pub outcome_at : (products : List Static) (gs : List Given) (p : ℕ) (s : Static) (g : Given) → AreOutcomesOf gs products → slice_get products p ≡ Some s → slice_get gs p ≡ Some g → IsOutcomeOf s.kind g
outcome_at [] gs p s g all at is = absurd (none-some s at)
outcome_at (x ∷ products) [] p s g all at is = absurd all
outcome_at (x ∷ products) (y ∷ gs) zero s g all at is = subst (λ (z : Static). IsOutcomeOf z.kind g) (same_Some x s at) (subst (λ (z : Given). IsOutcomeOf x.kind z) (same_Some y g is) all.0)
outcome_at (x ∷ products) (y ∷ gs) (suc p) s g all at is = outcome_at products gs p s g all.1 at is

pub as_many : (products : List Static) (gs : List Given) → AreOutcomesOf gs products → length gs ≡ length products
as_many [] [] all = refl
as_many [] (y ∷ gs) all = absurd all
as_many (x ∷ products) [] all = absurd all
as_many (x ∷ products) (y ∷ gs) all = ap suc (as_many products gs all.1)

-- a product that takes a region has no settled outcome
pub region_outcome : (k : Kind) (g : Given) → IsOutcomeOf k g → TakesRegion k → g ≡ given.Settled → ⊥
region_outcome kind.Rotation (given.Rotation raw x) o r e = cc
region_outcome kind.Rotation (given.Measure raw) o r e = absurd o
region_outcome kind.Rotation given.Settled o r e = absurd o
region_outcome (kind.Measure bit) (given.Rotation raw x) o r e = absurd o
region_outcome (kind.Measure bit) (given.Measure raw) o r e = cc
region_outcome (kind.Measure bit) given.Settled o r e = absurd o
region_outcome (kind.Settle first size value) g o r e = absurd r

pub entry_is : (p : ℕ) (g : Given) (e : Entry) → (g ≡ given.Settled → ⊥) → EntryOf p g e → e ≡ Deliver p g
entry_is p (given.Rotation raw x) e not x' = x'
entry_is p (given.Measure raw) e not x = x
entry_is p given.Settled e not x = absurd (not refl)

-- ---- a delivery
pub pending_within : (j : BoardJob) (h : History) (q : ℕ) → Legal j h → IsPending h q → q < length j.products
pending_within j h q legal x = let s = claimed_product j h q legal x.0 in slice_get_within j.products q s.0 s.1

pub unreleased_within : (j : BoardJob) (h : History) (q : ℕ) → Legal j h → IsUnreleased h q → q < length j.products
unreleased_within j h q legal x = let s = claimed_product j h q legal (delivered_is j h q legal x.0).0 in slice_get_within j.products q s.0 s.1

pending_outcome : (b : Position) (p : ℕ) (g : Given) (gs : List Given) → IsLegal b → AreOutcomesOf gs b.job.products → IsPending (past b) p → slice_get gs p ≡ Some g
    → (s : Static) × (slice_get b.job.products p ≡ Some s) × IsOutcomeOf s.kind g × (g ≡ given.Settled → ⊥)
pending_outcome b p g gs legal all x at =
    let s = claimed_product b.job (past b) p legal.legal x.0 in
    let o = outcome_at b.job.products gs p s.0 g all s.1 at in
    (s.0, s.1, o, region_outcome s.0.kind g o s.2)

pub pending_deliverable : (b : Position) (p : ℕ) (g : Given) (gs : List Given) → IsLegal b → AreOutcomesOf gs b.job.products → IsPending (past b) p → slice_get gs p ≡ Some g → IsDeliverable b p g
pending_deliverable b p g gs legal all x at =
    let s = pending_outcome b p g gs legal all x at in
    record {
      begun = record { static = s.0; product = s.1; claimed = λ _. x.0 };
      undone = x.1;
      outcome = s.2;
      ready = λ e. absurd (s.3 e);
    }

none_delivered : (h : History) (p : ℕ) (g : Given) (q : ℕ) → IsPending (h ++ Deliver p g ∷ []) q → IsPending h q × (p ≡ q → ⊥)
none_delivered h p g q x =
    let y = pending_push h (Deliver p g) q x in (
      elim y.1 [ inl z ↦ z | inr t ↦ absurd (true≢false (sym t)) ],
      λ e. true≢false (sym (eq-eqb p q e) ∙ y.0),
    )

-- what one delivery makes of a board
pub record Delivered (M : Meeting) (gs : List Given) (b c : Position) (p : ℕ) : Type 0 where
  pub goes : GoesOn M gs b c
  pub pending : (q : ℕ) → IsPending (past c) q → IsPending (past b) q × (p ≡ q → ⊥)
  pub unreleased : (q : ℕ) → IsUnreleased (past c) q → IsUnreleased (past b) q ⊎ (p ≡ q)

only_that : (p : ℕ) (g : Given) (q : ℕ) → IsSome (delivered (Deliver p g ∷ []) q) → p ≡ q
only_that p g q x = go (p == q) refl x
  where
    go : (t : Bool) → (p == q) ≡ t → is_some (elim (if t then Some g else None) [ None ↦ None | Some y ↦ Some y ]) ≡ true → p ≡ q
    go true f k = eqb-true p q f
    go false f k = absurd (true≢false (sym k))

pub one_delivered : (M : Meeting) (gs : List Given) (b c : Position) (p : ℕ) (g : Given) (e : Entry) → Least (IsPending (past b)) p → slice_get gs p ≡ Some g → (g ≡ given.Settled → ⊥) → EntryOf p g e → c ≡ with_entry b 0 e → Delivered M gs b c p
one_delivered M gs b c p g e least at unsettled is same =
    let that : c ≡ with_entry b 0 (Deliver p g) = same ∙ ap (λ (x : Entry). with_entry b 0 x) (entry_is p g e unsettled is) in
    let past_is = past_push b c (Deliver p g) that in
    record {
      goes = goes_one M gs b c (Deliver p g) that (least, at);
      pending = λ q x. none_delivered (past b) p g q (subst (λ (h : History). IsPending h q) past_is x);
      unreleased = λ q x. elim (unreleased_push (past b) (Deliver p g) q (subst (λ (h : History). IsUnreleased h q) past_is x)).1 [ inl y ↦ inl y | inr y ↦ inr (only_that p g q y) ];
    }

pub delivered_below : (M : Meeting) (gs : List Given) (b c : Position) (p : ℕ) → NoneBelow (IsPending (past b)) p → Delivered M gs b c p → NoneBelow (IsPending (past c)) (p + 1)
delivered_below M gs b c p below d q l x =
    let y = d.pending q x in
    elim (cases_order p q) [
      | inl e ↦ y.1 e
      | inr (inl m) ↦ absurd (omega arith)
      | inr (inr m) ↦ below q m y.0
    ]

-- ---- a release
pub one_released : (M : Meeting) (gs : List Given) (b c : Position) (p : ℕ) → NoneIs (IsPending (past b)) → Least (IsUnreleased (past b)) p → c ≡ with_entry b 0 (Release p) → GoesOn M gs b c
one_released M gs b c p none least same = goes_one M gs b c (Release p) same (none, least)

pub released_pending : (b c : Position) (p : ℕ) → c ≡ with_entry b 0 (Release p) → NoneIs (IsPending (past b)) → NoneIs (IsPending (past c))
released_pending b c p same none q x =
    elim (pending_push (past b) (Release p) q (subst (λ (h : History). IsPending h q) (past_push b c (Release p) same) x)).1 [ inl y ↦ none q y | inr t ↦ true≢false (sym t) ]

pub released_is : (b c : Position) (p q : ℕ) → c ≡ with_entry b 0 (Release p) → IsUnreleased (past c) q → IsUnreleased (past b) q × (p ≡ q → ⊥)
released_is b c p q same x =
    let y = unreleased_push (past b) (Release p) q (subst (λ (h : History). IsUnreleased h q) (past_push b c (Release p) same) x) in (
      elim y.1 [ inl z ↦ z | inr t ↦ absurd (true≢false (sym t)) ],
      λ e. true≢false (sym (eq-eqb p q e) ∙ y.0),
    )

pub released_below : (b c : Position) (p : ℕ) → c ≡ with_entry b 0 (Release p) → NoneBelow (IsUnreleased (past b)) p → NoneBelow (IsUnreleased (past c)) (p + 1)
released_below b c p same below q l x =
    let y = released_is b c p q same x in
    elim (cases_order p q) [
      | inl e ↦ y.1 e
      | inr (inl m) ↦ absurd (omega arith)
      | inr (inr m) ↦ below q m y.0
    ]

-- a delivery to the least product that is claimed and not done
pub least_delivered : (M : Meeting) (gs : List Given) (b c : Position) (p : ℕ) (g : Given) (e : Entry) → IsLegal b → AreOutcomesOf gs b.job.products → NoneBelow (IsPending (past b)) p → IsPending (past b) p → slice_get gs p ≡ Some g
    → EntryOf p g e → c ≡ with_entry b 0 e → Delivered M gs b c p
least_delivered M gs b c p g e legal all below pending at is same =
    one_delivered M gs b c p g e (pending, below) at (pending_outcome b p g gs legal all pending at).3 is same

-- ---- at the end of each phase
pub none_pending : (M : Meeting) (gs : List Given) (b c : Position) (n : ℕ) → GoesOn M gs b c → IsLegal c → AreOutcomesOf gs b.job.products → length gs ≤ n → NoneBelow (IsPending (past c)) n → NoneIs (IsPending (past c))
none_pending M gs b c n goes legal all whole below q x =
    let same : length c.job.products ≡ length b.job.products = ap (λ (j : BoardJob). length j.products) (goes_job M gs b c goes) in
    let many = as_many b.job.products gs all in
    let within = pending_within c.job (past c) q legal.legal x in
    below q (omega (arith, same, many, within, whole)) x

pub none_unreleased : (M : Meeting) (gs : List Given) (b c : Position) (n : ℕ) → GoesOn M gs b c → IsLegal c → length b.job.products ≤ n → NoneBelow (IsUnreleased (past c)) n → NoneIs (IsUnreleased (past c))
none_unreleased M gs b c n goes legal whole below q x =
    let same : length c.job.products ≡ length b.job.products = ap (λ (j : BoardJob). length j.products) (goes_job M gs b c goes) in
    let within = unreleased_within c.job (past c) q legal.legal x in
    below q (omega (arith, same, within, whole)) x

pub few_outcomes : (b : Position) (gs : List Given) → IsLegal b → AreOutcomesOf gs b.job.products → length gs ≤ 16384
few_outcomes b gs legal all =
    let many = as_many b.job.products gs all in
    let few : length b.job.products ≤ 16384 = legal.limits.few_products in
    omega (arith, many, few)
