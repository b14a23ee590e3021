-- What a router's entries make of the history that its pass has seen.
use Rattle.std.proofs.Common.{◌≡◌, ℕ, zero, suc, Bool, true, false, ◌||◌, if◌then◌else◌, List, [], ◌∷◌, ◌++◌, length, take, drop, position, option_map, slice_get, Option, Some, None, is_some, IsSome, Result, Ok, Err, refl, sym, ap, ◌∙◌, subst, arith, eq-eqb, eqb-true}
use Rattle.std.proofs.lemmas.Bool.{true≢false}
use Rattle.std.proofs.lemmas.List.{take-append-drop}
use Rattle.std.proofs.lemmas.Option.{same_Some, none-some, slice_get-map, slice_get_within}
use denote.RawPtr.{Ptr}
use Rattle.pauli_product.specs.Signed.{Signed}
use Rattle.source_model.specs.declared.Given.{Given}
use Rattle.source_model.specs.declared.Given.TheVariants as given
use Rattle.source_model.specs.declared.Kind.{Kind}
use Rattle.source_model.specs.declared.Kind.TheVariants as kind
use Rattle.source_model.specs.declared.Static.{Static}
use Rattle.source_model.specs.Circuits.{IsOutcomeOf}
use Rattle.source_model.specs.Statics.{AreOutcomesOf}
use Rattle.board_core.specs.declared.Entry.{Entry}
use Rattle.board_core.specs.declared.Entry.TheVariants.{Claim, Deliver, Release, Step, Settle}
use Rattle.board_core.specs.declared.Noted.{Noted}
use Rattle.board_core.specs.declared.board.DeliverWhy.{DeliverWhy}
use Rattle.board_core.specs.declared.board.DeliverWhy.TheVariants as why
use Rattle.board_core.specs.declared.board.ReleaseWhy.{ReleaseWhy}
use Rattle.board_core.specs.declared.board.ReleaseWhy.TheVariants as release_why
use Rattle.board_core.specs.History.{History, entries, is_claim_of, is_done_by, is_release_of, claim_place, done_place, release_place, delivered, delivery_in}
use Rattle.board_core.specs.Legal.{Allowed, Legal}
use Rattle.board_core.specs.View.{LeastWait}
use Rattle.board_core.specs.Books.{TakesRegion}
use Rattle.board_core.specs.Position.{Position, past, with_history, note}
use Rattle.board_core.specs.Causes.{DeliverRefusedBecause, EntryOf, ReleaseRefusedBecause}
use Rattle.board_core.proofs.Places.{or_else, place_cons, delivered-append}
use Rattle.board_core.proofs.Standings.{claims_are, found_at}
use Rattle.board_core.proofs.LegalOrder.{at_end}
use Rattle.grid_lock.specs.declared.view.View.{View}
use Rattle.grid_lock.specs.declared.replies.TryDeliver.{TryDeliver}
use Rattle.grid_lock.specs.declared.replies.TryDeliver.TheVariants as deliver
use Rattle.grid_lock.specs.declared.replies.TryRelease.{TryRelease}
use Rattle.grid_lock.specs.declared.replies.TryRelease.TheVariants as release
use Rattle.grid_lock.specs.Views.{Extends}
use Rattle.grid_lock.specs.Answers.{AcceptsOutcome, AcceptsRelease}
use Rattle.grid_lock.specs.Replies.{Accepts, Delivers, Releases}
use Rattle.router_work.proofs.Passings.{entries_on, place_stays, some_on}

-- ---- entries and their places
pub get_on : {A : Type 0} (xs ys : List A) (k : ℕ) (x : A) → slice_get xs k ≡ Some x → slice_get (xs ++ ys) k ≡ Some x
get_on [] ys k x e = absurd (none-some x e)
get_on (y ∷ xs) ys zero x e = e
get_on (y ∷ xs) ys (suc k) x e = get_on xs ys k x e

place_there : {A : Type 0} (test : A → Bool) (xs : List A) (k : ℕ) (x : A) → slice_get xs k ≡ Some x → test x ≡ true → IsSome (position test xs)
place_there test [] k x at t = absurd (none-some x at)
place_there test (y ∷ xs) zero x at t = place_cons test y xs ∙ ap (λ (b : Bool). b || is_some (position test xs)) (ap test (same_Some y x at) ∙ t)
place_there test (y ∷ xs) (suc k) x at t = place_cons test y xs ∙ go (test y) (place_there test xs k x at t)
  where
    go : (b : Bool) → is_some (position test xs) ≡ true → (b || is_some (position test xs)) ≡ true
    go true s = refl
    go false s = s

entry_there : (log : List Noted) (k : ℕ) (n : Noted) → slice_get log k ≡ Some n → slice_get (entries log) k ≡ Some n.entry
entry_there log k n at = slice_get-map (λ (x : Noted). x.entry) log k ∙ ap (option_map (λ (x : Noted). x.entry)) at

delivered_there : (h : History) (k q : ℕ) (g : Given) → slice_get h k ≡ Some (Deliver q g) → IsSome (delivered h q)
delivered_there [] k q g at = absurd (none-some (Deliver q g) at)
delivered_there (e ∷ h) zero q g at =
    ap (λ (x : Entry). is_some (delivered (x ∷ h) q)) (same_Some e (Deliver q g) at)
    ∙ ap (λ (b : Bool). is_some (elim (if b then Some g else None) [ None ↦ delivered h q | Some y ↦ Some y ])) (eq-eqb q q refl)
delivered_there (e ∷ h) (suc k) q g at = go (delivery_in q e) (delivered_there h k q g at)
  where
    go : (o : Option Given) → IsSome (delivered h q) → is_some (elim o [ None ↦ delivered h q | Some y ↦ Some y ]) ≡ true
    go None s = s
    go (Some y) s = refl

-- an entry of this kind that the pass has seen
pub claimed_there : (log : List Noted) (k by p : ℕ) (axis : Signed) (port state : Option ℕ) (cells : List ℕ) → slice_get log k ≡ Some (note by (Claim p axis port state cells)) → IsSome (claim_place (entries log) p)
claimed_there log k by p axis port state cells at = place_there (is_claim_of p) (entries log) k (Claim p axis port state cells) (entry_there log k (note by (Claim p axis port state cells)) at) (eq-eqb p p refl)

pub settled_there : (log : List Noted) (k by p : ℕ) (flip : Bool) → slice_get log k ≡ Some (note by (Settle p flip)) → IsSome (done_place (entries log) p)
settled_there log k by p flip at = place_there (is_done_by p) (entries log) k (Settle p flip) (entry_there log k (note by (Settle p flip)) at) (eq-eqb p p refl)

-- the entry of an accepted call stands right after the history that the board answered at
pub accepted_there : (v w : View) (e : Entry) (Answers : Position → Type 0) (a : Accepts v e Answers w) → slice_get w.seen (length a.0) ≡ Some (note w.number e)
accepted_there v w e Answers a =
    let x : Noted = note v.number e in
    let is = a.3 in
    ap (λ (u : View). slice_get u.seen (length a.0)) is
    ∙ (at_end a.0 x [] ∙ ap (λ (n : ℕ). Some (note n e)) (sym (ap (λ (u : View). u.number) is)))

pub delivered_on : (log seen : List Noted) (p : ℕ) → Extends log seen → IsSome (delivered (entries seen) p) → IsSome (delivered (entries log) p)
delivered_on log seen p x s =
    ap (λ (h : History). is_some (delivered h p)) (entries_on log seen x)
    ∙ (ap is_some (delivered-append (entries seen) (entries x.0) p) ∙ go (delivered (entries seen) p) (delivered (entries x.0) p) s)
  where
    go : (o more : Option Given) → IsSome o → is_some (or_else o more) ≡ true
    go None more t = absurd (true≢false (sym t))
    go (Some g) more t = refl

-- ---- outcomes of the right kind
pub product_of_outcome : (products : List Static) (gs : List Given) (p : ℕ) (g : Given) → AreOutcomesOf gs products → slice_get gs p ≡ Some g → (s : Static) × (slice_get products p ≡ Some s) × IsOutcomeOf s.kind g
product_of_outcome [] [] p g all at = absurd (none-some g at)
product_of_outcome [] (x ∷ gs) p g all at = absurd all
product_of_outcome (s ∷ ss) [] p g all at = absurd all
product_of_outcome (s ∷ ss) (x ∷ gs) zero g all at = (s, refl, subst (λ (y : Given). IsOutcomeOf s.kind y) (same_Some x g at) all.0)
product_of_outcome (s ∷ ss) (x ∷ gs) (suc p) g all at = product_of_outcome ss gs p g all.1 at

pub no_region : (k : Kind) → IsOutcomeOf k given.Settled → TakesRegion k → ⊥
no_region kind.Rotation o r = o
no_region (kind.Measure bit) o r = o
no_region (kind.Settle first size value) o r = r

settled_outcome : (first size value : ℕ) (g : Given) → IsOutcomeOf (kind.Settle first size value) g → g ≡ given.Settled
settled_outcome first size value (given.Rotation raw x) o = absurd o
settled_outcome first size value (given.Measure raw) o = absurd o
settled_outcome first size value given.Settled o = refl

not_both : {A : Type 0} (o : Option A) → IsSome o → o ≡ None → ⊥
not_both o s n = true≢false (sym s ∙ ap is_some n)

-- ---- a product that takes a region
module _ (b : Position) (gs : List Given) (p : ℕ) (g : Given) (all : AreOutcomesOf gs b.job.products) (at : slice_get gs p ≡ Some g) (region : g ≡ given.Settled → ⊥) where
  -- where it is done it was delivered
  done_delivered : Legal b.job (past b) → (place : ℕ) → done_place (past b) p ≡ Some place → IsSome (delivered (past b) p)
  done_delivered legal place done = go there.0 there.1 there.2
    where
      there : (e : Entry) × (slice_get (past b) place ≡ Some e) × (is_done_by p e ≡ true)
      there = found_at (is_done_by p) (past b) place done

      settles : (flip : Bool) → slice_get (past b) place ≡ Some (Settle p flip) → ⊥
      settles flip is =
          let f = (legal place (Settle p flip) is).2 in
          let o = product_of_outcome b.job.products gs p g all at in
          let same : o.0 ≡ f.0 = same_Some o.0 f.0 (sym o.1 ∙ f.4) in
          region (settled_outcome f.1 f.2 f.3 g (subst (λ (k : Kind). IsOutcomeOf k g) (ap (λ (s : Static). s.kind) same ∙ f.5) o.2))

      go : (e : Entry) → slice_get (past b) place ≡ Some e → is_done_by p e ≡ true → IsSome (delivered (past b) p)
      go (Claim q axis port state cells) is t = absurd (true≢false (sym t))
      go (Deliver q x) is t = delivered_there (past b) place p x (is ∙ ap (λ (n : ℕ). Some (Deliver n x)) (eqb-true q p t))
      go (Release q) is t = absurd (true≢false (sym t))
      go (Step f) is t = absurd (true≢false (sym t))
      go (Settle q flip) is t = absurd (settles flip (is ∙ ap (λ (n : ℕ). Some (Settle n flip)) (eqb-true q p t)))

  -- claimed, its outcome is refused only where it was delivered
  refused_delivered : (w : DeliverWhy) → Legal b.job (past b) → IsSome (claim_place (past b) p) → DeliverRefusedBecause w b p g → IsSome (delivered (past b) p)
  refused_delivered why.NoProduct legal claimed x =
      let o = product_of_outcome b.job.products gs p g all at in
      let within = slice_get_within b.job.products p o.0 o.1 in
      absurd (omega arith)
  refused_delivered why.Unclaimed legal claimed x = absurd (not_both (claim_place (past b) p) claimed x.3)
  refused_delivered (why.Twice place) legal claimed x = done_delivered legal place x.1
  refused_delivered why.WrongKind legal claimed x =
      let o = product_of_outcome b.job.products gs p g all at in
      let same : o.0 ≡ x.0.static = same_Some o.0 x.0.static (sym o.1 ∙ x.0.product) in
      absurd (x.2 (subst (λ (s : Static). IsOutcomeOf s.kind g) same o.2))
  refused_delivered (why.Waits on) legal claimed x = absurd (region x.3)

  -- delivered, its release is refused only where it was released
  refused_released : (w : ReleaseWhy) → IsSome (delivered (past b) p) → ReleaseRefusedBecause w b p → IsSome (release_place (past b) p)
  refused_released release_why.NoProduct done x =
      let o = product_of_outcome b.job.products gs p g all at in
      let within = slice_get_within b.job.products p o.0 o.1 in
      absurd (omega arith)
  refused_released release_why.Undelivered done x = absurd (not_both (delivered (past b) p) done x.1)
  refused_released (release_why.Twice place) done x = ap is_some x.1

-- the entry of an outcome other than that of a settled product
delivers_it : (p : ℕ) (g : Given) (e : Entry) → (g ≡ given.Settled → ⊥) → EntryOf p g e → e ≡ Deliver p g
delivers_it p (given.Rotation raw x) e region is = is
delivers_it p (given.Measure raw) e region is = is
delivers_it p given.Settled e region is = absurd (region refl)

module _ (v w : View) (gs : List Given) (p : ℕ) (g : Given) (all : AreOutcomesOf gs v.opened.job.products) (at : slice_get gs p ≡ Some g) (region : g ≡ given.Settled → ⊥) where
  -- after the call that delivers a claimed product it is delivered, unless the turn was held
  pub delivered_after : (node : Ptr) (r : Result ℕ TryDeliver) → IsSome (claim_place (entries v.seen) p) → Delivers v p g node r w → ((n : Ptr) → r ≡ Err (deliver.Busy n) → ⊥) → IsSome (delivered (entries w.seen) p)
  delivered_after node (Ok place) claimed told free =
      let e = told.0 in
      let a = told.1 in
      let is : e ≡ Deliver p g = delivers_it p g e region a.2.entry in
      let here = accepted_there v w e (λ b. AcceptsOutcome b p g e place) a in
      delivered_there (entries w.seen) (length a.0) p g (entry_there w.seen (length a.0) (note w.number e) here ∙ ap Some is)
  delivered_after node (Err (deliver.Refused r)) claimed told free =
      let f = told.0 in
      let b : Position = with_history v.opened w.seen in
      refused_delivered b gs p g all at region r.why f.0.legal.legal (some_on (is_claim_of p) w.seen v.seen f.0.begins claimed) f.1.because
  delivered_after node (Err (deliver.Busy n)) claimed told free = absurd (free n refl)

  -- after the call that releases a delivered product it is released, unless the turn was held
  pub released_after : (node : Ptr) (r : Result ℕ TryRelease) → IsSome (delivered (entries v.seen) p) → Releases v p node r w → ((n : Ptr) → r ≡ Err (release.Busy n) → ⊥) → IsSome (release_place (entries w.seen) p)
  released_after node (Ok place) done told free =
      let a = told in
      let here = accepted_there v w (Release p) (λ b. AcceptsRelease b p place) a in
      place_there (is_release_of p) (entries w.seen) (length a.0) (Release p) (entry_there w.seen (length a.0) (note w.number (Release p)) here) (eq-eqb p p refl)
  released_after node (Err (release.Refused r)) done told free =
      let f = told.0 in
      refused_released (with_history v.opened w.seen) gs p g all at region r.why (delivered_on w.seen v.seen p f.0.begins done) f.1.because
  released_after node (Err (release.Busy n)) done told free = absurd (free n refl)

-- ---- a settled product
settles_it : (p : ℕ) (e : Entry) (x : EntryOf p given.Settled e) → e ≡ Settle p x.0
settles_it p e x = x.1

-- it is settled where its outcome was accepted
pub settled_after : (v w : View) (p place : ℕ) (e : Entry) → Accepts v e (λ b. AcceptsOutcome b p given.Settled e place) w → (flip : Bool) × (slice_get w.seen place ≡ Some (note w.number (Settle p flip)))
settled_after v w p place e a =
    let x = a.2.entry in
    (x.0, ap (slice_get w.seen) a.2.place_is ∙ (accepted_there v w e (λ b. AcceptsOutcome b p given.Settled e place) a ∙ ap (λ (f : Entry). Some (note w.number f)) x.1))

-- its outcome is refused where it waits or is done, and for no other cause
module _ (b : Position) (gs : List Given) (p : ℕ) (all : AreOutcomesOf gs b.job.products) (at : slice_get gs p ≡ Some given.Settled) where
  pub has_product : DeliverRefusedBecause why.NoProduct b p given.Settled → ⊥
  has_product x =
      let o = product_of_outcome b.job.products gs p given.Settled all at in
      let within = slice_get_within b.job.products p o.0 o.1 in
      omega arith

  pub wants_no_claim : DeliverRefusedBecause why.Unclaimed b p given.Settled → ⊥
  wants_no_claim x =
      let o = product_of_outcome b.job.products gs p given.Settled all at in
      let same : x.0 ≡ o.0 = same_Some x.0 o.0 (sym x.1 ∙ o.1) in
      no_region o.0.kind o.2 (subst (λ (s : Static). TakesRegion s.kind) same x.2)

  pub has_kind : DeliverRefusedBecause why.WrongKind b p given.Settled → ⊥
  has_kind x =
      let o = product_of_outcome b.job.products gs p given.Settled all at in
      let same : o.0 ≡ x.0.static = same_Some o.0 x.0.static (sym o.1 ∙ x.0.product) in
      x.2 (subst (λ (s : Static). IsOutcomeOf s.kind given.Settled) same o.2)

-- ---- a product that waits
-- in a legal history it has no claim: each claim is of a product that waits on none, and what is done stays done
pub waiting_unclaimed : (b : Position) (p on : ℕ) → Legal b.job (past b) → LeastWait b.job.products (past b) p (Some on) → claim_place (past b) p ≡ None
waiting_unclaimed b p on legal waits = go (claim_place (past b) p) refl
  where
    claimed : (place : ℕ) → claim_place (past b) p ≡ Some place → ⊥
    claimed place there =
        let w = waits.0 in
        let at = found_at (is_claim_of p) (past b) place there in
        let c = claims_are p at.0 at.2 in
        let allowed : Allowed b.job (take place (past b)) (Claim p c.0 c.1 c.2 c.3) = subst (Allowed b.job (take place (past b))) c.4 (legal place at.0 at.1) in
        let done : IsSome (done_place (take place (past b)) on) = allowed.ready on w.1 w.2 w.0 w.3 w.4 w.5 in
        let still = place_stays (is_done_by on) (take place (past b)) (drop place (past b)) done in
        not_both (done_place (past b) on) (subst (λ (h : History). IsSome (done_place h on)) (take-append-drop place (past b)) still) w.6

    go : (o : Option ℕ) → claim_place (past b) p ≡ o → claim_place (past b) p ≡ None
    go None is = is
    go (Some place) is = absurd (claimed place is)
