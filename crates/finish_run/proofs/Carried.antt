-- A product that is settled, or claimed, delivered and released.
use Rattle.std.proofs.Common.{◌≡◌, inl, inr, ℕ, ◌<◌, Bool, true, if◌then◌else◌, List, [], ◌∷◌, ◌++◌, slice_get, Option, Some, None, IsSome, is_some, refl, ap, sym, ◌∙◌, subst, arith, eq-eqb, eqb-true}
use Rattle.std.proofs.lemmas.Bool.{true≢false}
use Rattle.source_model.specs.declared.Given.{Given}
use Rattle.source_model.specs.declared.Given.TheVariants as given
use Rattle.source_model.specs.declared.Kind.{Kind}
use Rattle.source_model.specs.declared.Kind.TheVariants as kind
use Rattle.source_model.specs.Circuits.{IsOutcomeOf}
use Rattle.patch_layout.specs.declared.look.Look.{Look}
use Rattle.patch_layout.specs.declared.plan.Plan.{Plan}
use Rattle.board_core.specs.declared.Entry.{Entry}
use Rattle.board_core.specs.declared.Entry.TheVariants.{Claim, Deliver, Release, Settle}
use Rattle.board_core.specs.History.{History, is_claim_of, is_done_by, is_release_of, claim_place, done_place, release_place, delivered}
use Rattle.board_core.specs.Legal.{BoardJob, Allowed}
use Rattle.board_core.specs.Books.{TakesRegion}
use Rattle.board_core.specs.Position.{Position, past, with_entry, IsLegal}
use Rattle.board_core.specs.Causes.{EntryOf, IsDeliverable, claim_of}
use Rattle.board_core.proofs.Places.{or_else, delivered-append}
use Rattle.board_core.proofs.Standings.{place_comes, place_stays}
use Rattle.board_core.proofs.Holding.{release_claimed}
use Rattle.source_model.specs.Statics.{AreOutcomesOf}
use Rattle.finish_run.specs.Next.{Meeting, IsIdle, IsPending, IsTurnOf, IsUnreleased, NoneIs, never}
use Rattle.finish_run.specs.Finished.{GoesOn}
use Rattle.finish_run.specs.inside.Looks.{IsServed, ShowsTurn}
use Rattle.finish_run.proofs.Onward.{goes_any, goes_job, goes_more, goes_one}
use Rattle.finish_run.proofs.Past.{done_now, done_stays, not_both, past_push, pending_push, some_or_none, unreleased_push}
use Rattle.finish_run.proofs.Pending.{Delivered, entry_is, one_delivered, one_released, outcome_at, released_is, released_pending}
use Rattle.finish_run.proofs.Turns.{turn_unclaimed, turn_waits}

-- what a product that is brought to its end makes of a board
pub record Ended (M : Meeting) (gs : List Given) (b c : Position) (p : ℕ) : Type 0 where
  pub goes : GoesOn M gs b c
  pub idle : IsIdle (past c)
  pub done : IsSome (done_place (past c) p)

-- ---- a settling
settled_region : (k : Kind) → IsOutcomeOf k given.Settled → TakesRegion k → ⊥
settled_region kind.Rotation o r = o
settled_region (kind.Measure bit) o r = o
settled_region (kind.Settle first size value) o r = r

pub settled_deliverable : (b : Position) (p : ℕ) (gs : List Given) → AreOutcomesOf gs b.job.products → IsTurnOf b p → slice_get gs p ≡ Some given.Settled → IsDeliverable b p given.Settled
settled_deliverable b p gs all turn at =
    let s = turn.1 in
    let o = outcome_at b.job.products gs p s.0 given.Settled all s.1 at in
    record {
      begun = record { static = s.0; product = s.1; claimed = λ r. absurd (settled_region s.0.kind o r) };
      undone = turn.2.0;
      outcome = o;
      ready = λ _. turn_waits b p turn;
    }

idle_settle : (h : History) (p : ℕ) (flip : Bool) → IsIdle h → IsIdle (h ++ Settle p flip ∷ [])
idle_settle h p flip i = (
  λ q x. elim (pending_push h (Settle p flip) q x).1 [ inl y ↦ i.0 q y | inr t ↦ true≢false (sym t) ],
  λ q x. elim (unreleased_push h (Settle p flip) q x).1 [ inl y ↦ i.1 q y | inr t ↦ true≢false (sym t) ],
)

pub settled : (M : Meeting) (gs : List Given) (b c : Position) (p : ℕ) (e : Entry) → IsTurnOf b p → EntryOf p given.Settled e → c ≡ with_entry b 0 e → Ended M gs b c p
settled M gs b c p e turn is same =
    let that : c ≡ with_entry b 0 (Settle p is.0) = same ∙ ap (λ (x : Entry). with_entry b 0 x) is.1 in
    let past_is = past_push b c (Settle p is.0) that in
    record {
      goes = goes_one M gs b c (Settle p is.0) that turn;
      idle = subst (λ (h : History). IsIdle h) (sym past_is) (idle_settle (past b) p is.0 turn.0);
      done = subst (λ (h : History). IsSome (done_place h p)) (sym past_is) (done_now (past b) (Settle p is.0) p (eq-eqb p p refl));
    }

-- ---- a claim
module _ (M : Meeting) (gs : List Given) (b c : Position) (p : ℕ) (look : Look) (plan : Plan) (state : Option ℕ) (g : Given)
    (legal : IsLegal b) (shows : ShowsTurn b p look) (number : plan.number ≡ look.product) (meets : M b.job.grid look plan.port plan.cells) (claimed : c ≡ with_entry b 0 (claim_of plan state)) where
  is_p : plan.number ≡ p
  is_p = number ∙ shows.shows.product

  that : c ≡ with_entry b 0 (Claim p plan.axis plan.port state plan.cells)
  that = claimed ∙ ap (λ (n : ℕ). with_entry b 0 (Claim n plan.axis plan.port state plan.cells)) is_p

  past_is : past c ≡ past b ++ Claim p plan.axis plan.port state plan.cells ∷ []
  past_is = past_push b c (Claim p plan.axis plan.port state plan.cells) that

  same_job : c.job ≡ b.job
  same_job = ap (λ (q : Position). q.job) that

  pub claim_goes : GoesOn M gs b c
  claim_goes = goes_one M gs b c (Claim p plan.axis plan.port state plan.cells) that (shows.turn, (look, shows.shows, meets))

  undone : done_place (past c) p ≡ None
  undone = ap (λ (h : History). done_place h p) past_is ∙ place_stays (is_done_by p) (past b) (Claim p plan.axis plan.port state plan.cells) refl ∙ shows.turn.2.0

  has_claim : IsSome (claim_place (past c) p)
  has_claim = ap (λ (h : History). is_some (claim_place h p)) past_is
      ∙ ap is_some (place_comes (is_claim_of p) (past b) (Claim p plan.axis plan.port state plan.cells) (eq-eqb p p refl) (turn_unclaimed b p shows.turn))

  unreleased_before : release_place (past b) p ≡ None
  unreleased_before = elim (some_or_none (release_place (past b) p)) [
    | inl s ↦ absurd (not_both (claim_place (past b) p) (release_claimed b.job (past b) p legal.legal s) (turn_unclaimed b p shows.turn))
    | inr n ↦ n
  ]

  unreleased : release_place (past c) p ≡ None
  unreleased = ap (λ (h : History). release_place h p) past_is ∙ place_stays (is_release_of p) (past b) (Claim p plan.axis plan.port state plan.cells) refl ∙ unreleased_before

  pending_that : (q : ℕ) → IsPending (past c) q → p ≡ q
  pending_that q x =
      elim (pending_push (past b) (Claim p plan.axis plan.port state plan.cells) q (subst (λ (h : History). IsPending h q) past_is x)).1 [
        | inl y ↦ absurd (shows.turn.0.0 q y)
        | inr t ↦ eqb-true p q t
      ]

  none_unreleased : NoneIs (IsUnreleased (past c))
  none_unreleased q x =
      elim (unreleased_push (past b) (Claim p plan.axis plan.port state plan.cells) q (subst (λ (h : History). IsUnreleased h q) past_is x)).1 [
        | inl y ↦ shows.turn.0.1 q y
        | inr t ↦ true≢false (sym t)
      ]

  pub claim_deliverable : AreOutcomesOf gs b.job.products → slice_get gs p ≡ Some g → (g ≡ given.Settled → ⊥) → IsDeliverable c p g
  claim_deliverable all at unsettled =
      let s = shows.shows in
      record {
        begun = record {
          static = s.static;
          product = ap (λ (j : BoardJob). slice_get j.products p) same_job ∙ s.is;
          claimed = λ _. has_claim;
        };
        undone = undone;
        outcome = outcome_at b.job.products gs p s.static g all s.is at;
        ready = λ e. absurd (unsettled e);
      }

  below_that : (q : ℕ) → q < p → IsPending (past c) q → ⊥
  below_that q l x = let e = pending_that q x in omega (arith, l, e)

  -- ---- its delivery
  module _ (d : Position) (e : Entry) (at : slice_get gs p ≡ Some g) (unsettled : g ≡ given.Settled → ⊥) (is : EntryOf p g e) (gave : d ≡ with_entry c 0 e) where
    delivery : Delivered M gs c d p
    delivery = one_delivered M gs c d p g e ((has_claim, undone), below_that) at unsettled is gave

    delivered_that : d ≡ with_entry c 0 (Deliver p g)
    delivered_that = gave ∙ ap (λ (x : Entry). with_entry c 0 x) (entry_is p g e unsettled is)

    past_d : past d ≡ past c ++ Deliver p g ∷ []
    past_d = past_push c d (Deliver p g) delivered_that

    has_delivery : IsSome (delivered (past d) p)
    has_delivery = ap (λ (h : History). is_some (delivered h p)) past_d ∙ ap is_some (delivered-append (past c) (Deliver p g ∷ []) p) ∙ go (delivered (past c) p)
      where
        last : is_some (delivered (Deliver p g ∷ []) p) ≡ true
        last = ap (λ (t : Bool). is_some (elim (if t then Some g else None) [ None ↦ None | Some y ↦ Some y ])) (eq-eqb p p refl)

        go : (o : Option Given) → is_some (or_else o (delivered (Deliver p g ∷ []) p)) ≡ true
        go None = last
        go (Some x) = refl

    still : release_place (past d) p ≡ None
    still = ap (λ (h : History). release_place h p) past_d ∙ place_stays (is_release_of p) (past c) (Deliver p g) refl ∙ unreleased

    pub delivery_releasable : Allowed d.job (past d) (Release p)
    delivery_releasable = (has_delivery, still)

    none_pending : NoneIs (IsPending (past d))
    none_pending q x = let y = delivery.pending q x in y.1 (pending_that q y.0)

    unreleased_that : (q : ℕ) → IsUnreleased (past d) q → p ≡ q
    unreleased_that q x = elim (delivery.unreleased q x) [
      | inl y ↦ absurd (none_unreleased q y)
      | inr e ↦ e
    ]

    below_release : (q : ℕ) → q < p → IsUnreleased (past d) q → ⊥
    below_release q l x = let e = unreleased_that q x in omega (arith, l, e)

    -- ---- and its release
    pub ended : (f : Position) → f ≡ with_entry d 0 (Release p) → Ended M gs b f p
    ended f gave_back = record {
      goes = goes_more M gs b c f claim_goes (goes_more M gs c d f delivery.goes (one_released M gs d f p none_pending ((has_delivery, still), below_release) gave_back));
      idle = (
        released_pending d f p gave_back none_pending,
        λ q x. let y = released_is d f p q gave_back x in y.1 (unreleased_that q y.0),
      );
      done = subst (λ (h : History). IsSome (done_place h p)) (sym (past_push d f (Release p) gave_back))
          (done_stays (past d) (Release p) p (subst (λ (h : History). IsSome (done_place h p)) (sym past_d) (done_now (past c) (Deliver p g) p (eq-eqb p p refl))));
    }

-- ---- all of it
served_kind : (k : Kind) (g : Given) → IsOutcomeOf k g → (g ≡ given.Settled → ⊥) → TakesRegion k
served_kind kind.Rotation g o unsettled = tt
served_kind (kind.Measure bit) g o unsettled = tt
served_kind (kind.Settle first size value) (given.Rotation raw x) o unsettled = absurd o
served_kind (kind.Settle first size value) (given.Measure raw) o unsettled = absurd o
served_kind (kind.Settle first size value) given.Settled o unsettled = absurd (unsettled refl)

pub outcomes_same : (a b : Position) (gs : List Given) → GoesOn never gs a b → AreOutcomesOf gs a.job.products → AreOutcomesOf gs b.job.products
outcomes_same a b gs goes all = subst (λ (j : BoardJob). AreOutcomesOf gs j.products) (sym (goes_job never gs a b goes)) all

pub is_served : (b : Position) (p : ℕ) (gs : List Given) (g : Given) (look : Look) → AreOutcomesOf gs b.job.products → ShowsTurn b p look → slice_get gs p ≡ Some g → (g ≡ given.Settled → ⊥) → IsServed b p
is_served b p gs g look all shows at unsettled =
    let s = shows.shows in
    (s.static, s.is, served_kind s.static.kind g (outcome_at b.job.products gs p s.static g all s.is at) unsettled)

pub served_ended : (M : Meeting) (gs : List Given) (a b c d f : Position) (p : ℕ) (look : Look) (plan : Plan) (state : Option ℕ) (g : Given) (e : Entry) → IsLegal b → ShowsTurn b p look → plan.number ≡ look.product → M b.job.grid look plan.port plan.cells
    → c ≡ with_entry b 0 (claim_of plan state) → slice_get gs p ≡ Some g → (g ≡ given.Settled → ⊥) → EntryOf p g e → d ≡ with_entry c 0 e → f ≡ with_entry d 0 (Release p) → GoesOn never gs a b → Ended M gs a f p
served_ended M gs a b c d f p look plan state g e legal shows number meets claimed at unsettled is gave back goes =
    let x = ended M gs b c p look plan state g legal shows number meets claimed d e at unsettled is gave f back in
    record { goes = goes_more M gs a b f (goes_any M gs a b goes) x.goes; idle = x.idle; done = x.done }
