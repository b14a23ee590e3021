-- What the steps of a router's try add up to.
use Rattle.std.proofs.Common.{◌≡◌, ◌⊎◌, inl, inr, ℕ, suc, ◌<◌, ◌≤◌, true, List, [], ◌∷◌, length, slice_get, None, Some, is_some, IsSome, Result, Ok, Err, refl, sym, ap, ◌∙◌, subst, arith, length-append}
use Rattle.std.proofs.lemmas.Option.{slice_get_within}
use Rattle.std.proofs.lemmas.Bool.{true≢false}
use denote.RawPtr.{Ptr}
use Rattle.patch_base.specs.Outside.{Rose}
use Rattle.source_model.specs.declared.Given.{Given}
use Rattle.source_model.specs.declared.Given.TheVariants as given
use Rattle.source_model.specs.declared.Static.{Static}
use Rattle.source_model.specs.Statics.{AreOutcomesOf}
use Rattle.patch_layout.specs.Grid.{Grid}
use Rattle.patch_layout.specs.declared.look.Look.{Look}
use Rattle.patch_layout.specs.declared.plan.Plan.{Plan}
use Rattle.region_plan.specs.declared.answer.Planned.{Planned}
use Rattle.region_plan.specs.declared.answer.Planned.TheVariants as planned
use Rattle.region_plan.specs.Answer.{Answers, LeastJoined}
use Rattle.board_core.specs.declared.Entry.{Entry}
use Rattle.board_core.specs.declared.Entry.TheVariants.{Claim, Release}
use Rattle.board_core.specs.declared.Noted.{Noted}
use Rattle.board_core.specs.declared.board.Claimed.{Claimed}
use Rattle.board_core.specs.declared.board.DeliverRefused.{DeliverRefused}
use Rattle.board_core.specs.declared.board.DeliverWhy.{DeliverWhy}
use Rattle.board_core.specs.declared.board.DeliverWhy.TheVariants as why
use Rattle.board_core.specs.declared.board.ClaimRefused.{ClaimRefused}
use Rattle.board_core.specs.declared.board.ClaimWhy.{ClaimWhy}
use Rattle.board_core.specs.declared.board.ClaimWhy.TheVariants as claim_why
use Rattle.board_core.specs.History.{entries, is_claim_of, claim_place, delivered, release_place}
use Rattle.board_core.specs.Position.{Position, past, with_history, note, IsLegal}
use Rattle.board_core.specs.Causes.{DeliverRefusedBecause, EntryOf, claim_of}
use Rattle.board_core.specs.View.{LeastWait}
use Rattle.grid_lock.specs.declared.view.View.{View}
use Rattle.grid_lock.specs.declared.replies.TryLook.{TryLook}
use Rattle.grid_lock.specs.declared.replies.TryLook.TheVariants as look
use Rattle.grid_lock.specs.declared.replies.TryWaits.{TryWaits}
use Rattle.grid_lock.specs.declared.replies.TryWaits.TheVariants as waits
use Rattle.grid_lock.specs.declared.replies.TryClaim.{TryClaim}
use Rattle.grid_lock.specs.declared.replies.TryClaim.TheVariants as claim
use Rattle.grid_lock.specs.declared.replies.TryDeliver.{TryDeliver}
use Rattle.grid_lock.specs.declared.replies.TryDeliver.TheVariants as deliver
use Rattle.grid_lock.specs.declared.replies.TryRelease.{TryRelease}
use Rattle.grid_lock.specs.declared.replies.TryRelease.TheVariants as release
use Rattle.grid_lock.specs.Views.{Extends, Continues}
use Rattle.grid_lock.specs.Passes.{Known, IsSamePass, IsCalm}
use Rattle.grid_lock.specs.Answers.{AcceptsClaim, AcceptsOutcome, AcceptsRelease, RefusesClaim, RefusesOutcome, RefusesRelease, ShowsProduct, WaitsFor, HasNoProduct}
use Rattle.grid_lock.specs.Replies.{Accepts, AnswersWaits, Finds, Looks, Claims, Delivers, Releases, Measures}
use Rattle.router_work.specs.Passing.{IsRouted, Passed, seen_board}
use Rattle.router_work.specs.Routing.{Routing, IsSameRouter, IsSetUp}
use Rattle.router_work.specs.Tries.{Answered, ClaimsAt, IsBegun, IsCarriedOut, IsPlanned, IsSettled, LookedBefore, LooksBetween, SettlesAt, WaitsBetween}
use Rattle.router_work.specs.Ends.{AttemptEnds, MetMore, TurnedMore}
use Rattle.router_work.specs.declared.attempt.Attempt.{Attempt}
use Rattle.router_work.specs.declared.attempt.Attempt.TheVariants as attempt
use Rattle.router_work.specs.declared.attempt.Tried.{Tried}
use Rattle.router_work.specs.inside.Steps.{Calls, GivesWay, Goes, IsAsked, IsOutcomeAt, IsTried, is_taken}
use Rattle.router_work.specs.Waits.{AfterWaiting, OnlyRead, Waited}
use Rattle.router_work.proofs.Passings.{begun_on, extends_on, extends_same, passed_added, passed_busy, passed_found, passed_measured, passed_none, passed_on, passed_read, some_on, turned_added, turned_found}
use Rattle.router_work.proofs.Histories.{accepted_there, claimed_there, delivered_after, delivered_on, get_on, has_kind, has_product, released_after, settled_after, settled_there, waiting_unclaimed, wants_no_claim}

-- ---- what each call told
abbrev pub HeardClaim : Routing → Routing → Plan → Ptr → Result Claimed TryClaim → Type 0
HeardClaim r s plan node o = (v : View) × Waited r.pass.view v × Claims v plan node o s.pass.view

abbrev pub HeardOutcome : Routing → Routing → ℕ → Given → Ptr → Result ℕ TryDeliver → Type 0
HeardOutcome r s number g node o = (v : View) × Waited r.pass.view v × Delivers v number g node o s.pass.view

abbrev pub HeardRelease : Routing → Routing → ℕ → Ptr → Result ℕ TryRelease → Type 0
HeardRelease r s number node o = (v : View) × Waited r.pass.view v × Releases v number node o s.pass.view

-- ---- the pass after each call
module _ (gs : List Given) (p q : Known) (v : View) (same : IsSamePass p q) (calm : IsCalm q) (waited : Waited p.view v) where
  pub pass_claims : (plan : Plan) (node : Ptr) (r : Result Claimed TryClaim) → Claims v plan node r q.view → Passed (IsRouted gs) p q
  pass_claims plan node (Ok c) told = passed_added (IsRouted gs) p q v same calm waited (claim_of plan c.state) (λ b. AcceptsClaim b plan c) tt told
  pass_claims plan node (Err (claim.Refused r)) told = passed_found (IsRouted gs) p q v same calm waited (λ b. RefusesClaim b plan r.why) told.0
  pass_claims plan node (Err (claim.Busy n m)) told = passed_busy (IsRouted gs) p q v same calm waited told.0

  makes_outcome : (number : ℕ) (g : Given) (e : Entry) → slice_get gs number ≡ Some g → EntryOf number g e → IsRouted gs e
  makes_outcome number (given.Rotation raw x) e at is = subst (IsRouted gs) (sym is) at
  makes_outcome number (given.Measure raw) e at is = subst (IsRouted gs) (sym is) at
  makes_outcome number given.Settled e at is = subst (IsRouted gs) (sym is.1) tt

  pub pass_delivers : (number : ℕ) (g : Given) (node : Ptr) (r : Result ℕ TryDeliver) → slice_get gs number ≡ Some g → Delivers v number g node r q.view → Passed (IsRouted gs) p q
  pass_delivers number g node (Ok place) at told =
      passed_added (IsRouted gs) p q v same calm waited told.0 (λ b. AcceptsOutcome b number g told.0 place) (makes_outcome number g told.0 at told.1.2.entry) told.1
  pass_delivers number g node (Err (deliver.Refused r)) at told = passed_found (IsRouted gs) p q v same calm waited (λ b. RefusesOutcome b number g r.why) told.0
  pass_delivers number g node (Err (deliver.Busy n)) at told = passed_busy (IsRouted gs) p q v same calm waited told.0

  pub pass_releases : (number : ℕ) (node : Ptr) (r : Result ℕ TryRelease) → Releases v number node r q.view → Passed (IsRouted gs) p q
  pass_releases number node (Ok place) told = passed_added (IsRouted gs) p q v same calm waited (Release number) (λ b. AcceptsRelease b number place) tt told
  pass_releases number node (Err (release.Refused r)) told = passed_found (IsRouted gs) p q v same calm waited (λ b. RefusesRelease b number r.why) told.0
  pass_releases number node (Err (release.Busy n)) told = passed_busy (IsRouted gs) p q v same calm waited told.0

-- ---- a router that goes on
pub goes_none : (r : Routing) → IsCalm r.pass → Goes r r
goes_none r calm = record {
  same = record { grid = refl; share = refl; given = refl };
  passed = passed_none (IsRouted r.given) r.pass calm;
  stops = omega arith;
}

pub goes_on : (r s t : Routing) → Goes r s → Goes s t → Goes r t
goes_on r s t x y =
    let m = x.stops in
    let n = y.stops in
    record {
      same = record { grid = y.same.grid ∙ x.same.grid; share = y.same.share ∙ x.same.share; given = y.same.given ∙ x.same.given };
      passed = passed_on (IsRouted r.given) r.pass s.pass t.pass x.passed (subst (λ (gs : List Given). Passed (IsRouted gs) s.pass t.pass) x.same.given y.passed);
      stops = omega arith;
    }

pub goes_asked : (r s : Routing) → IsCalm r.pass → IsAsked r s → Goes r s
goes_asked r s calm a =
    let m = a.1 in
    record {
      same = record { grid = ap (λ (x : Routing). x.grid) a.0; share = ap (λ (x : Routing). x.share) a.0; given = ap (λ (x : Routing). x.given) a.0 };
      passed = subst (λ (p : Known). Passed (IsRouted r.given) r.pass p) (sym (ap (λ (x : Routing). x.pass) a.0)) (passed_none (IsRouted r.given) r.pass calm);
      stops = omega arith;
    }

pub goes_called : (r s : Routing) → Calls r s → Passed (IsRouted r.given) r.pass s.pass → Goes r s
goes_called r s c passed =
    let same : s.stops ≡ r.stops = ap (λ (x : Routing). x.stops) c.is in
    record {
      same = record { grid = ap (λ (x : Routing). x.grid) c.is; share = ap (λ (x : Routing). x.share) c.is; given = ap (λ (x : Routing). x.given) c.is };
      passed = passed;
      stops = omega arith;
    }

-- the router's fields after steps on them, where its fields before were r
pub goes_by_fields : (r was s : Routing) → was ≡ r → IsSameRouter was s → Passed (IsRouted was.given) was.pass s.pass → was.stops ≤ s.stops → Goes r s
goes_by_fields r was s is same passed stops = subst (λ (x : Routing). Goes x s) is (record { same = same; passed = passed; stops = stops })

pub goes_measured : (r s : Routing) (n : ℕ) → Calls r s → Measures r.pass.view n s.pass.view → Goes r s
goes_measured r s n c told = goes_called r s c (passed_measured (IsRouted r.given) r.pass s.pass n c.same c.calm told)

pub goes_read : (r s : Routing) → Calls r s → OnlyRead r.pass.view s.pass.view → Goes r s
goes_read r s c is = goes_called r s c (passed_read (IsRouted r.given) r.pass s.pass c.same c.calm is)

-- ---- how a try ends
rose_then : (a b c : ℕ) → Rose a b → b ≤ c → Rose a c
rose_then a b c rose le = omega arith

pub rose_on : (a b c : ℕ) → a ≤ b → Rose b c → Rose a c
rose_on a b c le rose = omega arith

pub ends_on : (r s t : Routing) (a : Attempt) → Goes r s → AttemptEnds s a t → AttemptEnds r a t
ends_on r s t attempt.Stopped x e = rose_on r.stops s.stops t.stops x.stops e
ends_on r s t attempt.Busy x e = let m = x.passed.met in omega arith
ends_on r s t attempt.Memory x e = tt
ends_on r s t (attempt.Claimed place) x e = let m = x.passed.turns in omega arith
ends_on r s t (attempt.Settled place) x e = let m = x.passed.turns in omega arith
ends_on r s t (attempt.Taken place) x e = let m = x.passed.turns in omega arith
ends_on r s t (attempt.NotReady on) x e = let m = x.passed.turns in omega arith
ends_on r s t attempt.NoReady x e = let m = x.passed.turns in omega arith
ends_on r s t attempt.Blocked x e = let m = x.passed.turns in omega arith
ends_on r s t (attempt.Refused why) x e = let m = x.passed.turns in omega arith

-- a try after a step that left the hand
pub tried_on : (r s t : Routing) (number : ℕ) (x : Tried) → Goes r s → s.hand ≡ r.hand → IsTried s number x t → IsTried r number x t
tried_on r s t number x goes hand y = record {
  goes = goes_on r s t goes y.goes;
  hand = y.hand ∙ hand;
  ends = ends_on r s t x.answer goes y.ends;
  begun = y.begun;
}

-- what a step after the try leaves of it
pub ends_then : (r s t : Routing) (a : Attempt) → Goes s t → AttemptEnds r a s → AttemptEnds r a t
ends_then r s t attempt.Stopped x e = let m = x.stops in rose_then r.stops s.stops t.stops e m
ends_then r s t attempt.Busy x e = let m = x.passed.met in omega arith
ends_then r s t attempt.Memory x e = tt
ends_then r s t (attempt.Claimed place) x e = let m = x.passed.turns in omega arith
ends_then r s t (attempt.Settled place) x e = let m = x.passed.turns in omega arith
ends_then r s t (attempt.Taken place) x e = let m = x.passed.turns in omega arith
ends_then r s t (attempt.NotReady on) x e = let m = x.passed.turns in omega arith
ends_then r s t attempt.NoReady x e = let m = x.passed.turns in omega arith
ends_then r s t attempt.Blocked x e = let m = x.passed.turns in omega arith
ends_then r s t (attempt.Refused why) x e = let m = x.passed.turns in omega arith

pub tried_then : (r s t : Routing) (number : ℕ) (x : Tried) → IsTried r number x s → Goes s t → t.hand ≡ s.hand → IsTried r number x t
tried_then r s t number x y goes hand = record {
  goes = goes_on r s t y.goes goes;
  hand = hand ∙ y.hand;
  ends = ends_then r s t x.answer goes y.ends;
  begun = λ b. begun_on s.pass t.pass number goes.passed.seen (y.begun b);
}

-- the gate stopped the router after a step
pub tried_stopped : (r s t : Routing) (number : ℕ) → Goes r s → s.hand ≡ r.hand → Goes s t → t.hand ≡ s.hand → Rose s.stops t.stops → IsBegun s.pass number
    → IsTried r number (record { answer = attempt.Stopped; begun = true }) t
tried_stopped r s t number x hand y same rose begun = record {
  goes = goes_on r s t x y;
  hand = same ∙ hand;
  ends = rose_on r.stops s.stops t.stops x.stops rose;
  begun = λ b. begun_on s.pass t.pass number y.passed.seen begun;
}

-- the turn was held all along after a step
pub tried_busy : (r s t : Routing) (number : ℕ) → Goes r s → s.hand ≡ r.hand → Goes s t → t.hand ≡ s.hand → MetMore 1048576 s.pass t.pass → IsBegun s.pass number
    → IsTried r number (record { answer = attempt.Busy; begun = true }) t
tried_busy r s t number x hand y same met begun = record {
  goes = goes_on r s t x y;
  hand = same ∙ hand;
  ends = (let m = x.passed.met in omega arith);
  begun = λ b. begun_on s.pass t.pass number y.passed.seen begun;
}

-- ---- what a router was set up with
few_more : (gs : List Given) (products : List Static) → AreOutcomesOf gs products → length gs ≡ length products
few_more [] [] all = refl
few_more [] (s ∷ ss) all = absurd all
few_more (g ∷ gs) [] all = absurd all
few_more (g ∷ gs) (s ∷ ss) all = ap suc (few_more gs ss all.1)

pub as_many : (r : Routing) → IsSetUp r → length r.given ≡ length r.pass.view.opened.job.products
as_many r up = few_more r.given r.grid.opened.job.products up.outcomes ∙ ap (λ (b : Position). length b.job.products) (sym up.pass.1)

-- the router's pass has seen a legal history, so there are few products
pub few_outcomes : (r : Routing) → IsSetUp r → IsCalm r.pass → length r.given ≤ 16384
few_outcomes r up calm =
    let few = calm.legal.limits.few_products in
    let same = as_many r up in
    omega arith

-- the outcomes are those of the products of each board that the pass knows
pub outcomes_known : (r : Routing) (v : View) → IsSetUp r → Waited r.pass.view v → AreOutcomesOf r.given v.opened.job.products
outcomes_known r v up waited =
    subst (λ (b : Position). AreOutcomesOf r.given b.job.products) (sym (ap (λ (u : View). u.opened) waited.is ∙ up.pass.1)) up.outcomes

-- a look finds each product that has an outcome
pub look_finds : (r : Routing) (k : Known) (v w : View) (number : ℕ) (before after : Look) (e : TryLook) → k ≡ r.pass → IsSetUp r → number < length r.given → Waited k.view v
    → e ≡ look.NoProduct → Looks v number before (Err e) w after → ⊥
look_finds r k v w number before after e is up below waited absent told =
    let f : Looks v number before (Err look.NoProduct) w after = subst (λ (x : TryLook). Looks v number before (Err x) w after) absent told in
    let none = f.1.no_product in
    let opened : v.opened ≡ r.pass.view.opened = ap (λ (u : View). u.opened) waited.is ∙ ap (λ (x : Known). x.view.opened) is in
    let same = as_many r up in
    let many : length v.opened.job.products ≡ length r.pass.view.opened.job.products = ap (λ (b : Position). length b.job.products) opened in
    omega arith

-- ---- a settling
module _ (r s : Routing) (number : ℕ) (node : Ptr) (o : Result ℕ TryDeliver) (up : IsSetUp r) (calls : Calls r s) (at : IsSettled r.given number) (told : HeardOutcome r s number given.Settled node o) where
  pub settle_goes : Goes r s
  settle_goes = goes_called r s calls (pass_delivers r.given r.pass s.pass told.0 calls.same calls.calm told.1 number given.Settled node o at told.2)

  pub settle_accepted : (place : ℕ) → o ≡ Ok place → IsTried r number (record { answer = attempt.Settled place; begun = true }) s × SettlesAt s.pass number place
  settle_accepted place is =
      let heard = subst (λ (x : Result ℕ TryDeliver). Delivers told.0 number given.Settled node x s.pass.view) is told.2 in
      let a = heard.1 in
      let here = settled_after told.0 s.pass.view number place heard.0 a in (
        record {
          goes = settle_goes;
          hand = ap (λ (x : Routing). x.hand) calls.is;
          ends = turned_added (IsRouted r.given) r.pass s.pass told.0 calls.same calls.calm told.1 heard.0 (λ b. AcceptsOutcome b number given.Settled heard.0 place) a;
          begun = λ t. inr (settled_there s.pass.view.seen place s.pass.view.number number here.0 here.1);
        },
        here,
      )

  -- it is refused for a cause
  because : (e : TryDeliver) (x : DeliverRefused) (w : DeliverWhy) → o ≡ Err e → e ≡ deliver.Refused x → x.why ≡ w → DeliverRefusedBecause w (seen_board s.pass) number given.Settled
  because e x w is was cause =
      let heard = subst (λ (y : Result ℕ TryDeliver). Delivers told.0 number given.Settled node y s.pass.view) (is ∙ ap Err was) told.2 in
      let f = heard.0 in
      let opened : told.0.opened ≡ s.pass.view.opened = sym (ap (λ (u : View). u.opened) f.2) in
      subst (λ (y : DeliverWhy). DeliverRefusedBecause y (seen_board s.pass) number given.Settled) cause
      (subst (λ (b : Position). DeliverRefusedBecause x.why (with_history b s.pass.view.seen) number given.Settled) opened f.1.because)

  outcomes_seen : AreOutcomesOf r.given (seen_board s.pass).job.products
  outcomes_seen = subst (λ (b : Position). AreOutcomesOf r.given b.job.products) (sym (calls.same.1 ∙ up.pass.1)) up.outcomes

  pub settle_waits : (e : TryDeliver) (x : DeliverRefused) (on : ℕ) → o ≡ Err e → e ≡ deliver.Refused x → x.why ≡ why.Waits on → LeastWait s.pass.view.opened.job.products (past (seen_board s.pass)) number (Some on)
  settle_waits e x on is was cause = (because e x (why.Waits on) is was cause).4

  pub settle_has_product : (e : TryDeliver) (x : DeliverRefused) → o ≡ Err e → e ≡ deliver.Refused x → x.why ≡ why.NoProduct → ⊥
  settle_has_product e x is was cause = has_product (seen_board s.pass) r.given number outcomes_seen at (because e x why.NoProduct is was cause)

  pub settle_wants_no_claim : (e : TryDeliver) (x : DeliverRefused) → o ≡ Err e → e ≡ deliver.Refused x → x.why ≡ why.Unclaimed → ⊥
  settle_wants_no_claim e x is was cause = wants_no_claim (seen_board s.pass) r.given number outcomes_seen at (because e x why.Unclaimed is was cause)

  pub settle_has_kind : (e : TryDeliver) (x : DeliverRefused) → o ≡ Err e → e ≡ deliver.Refused x → x.why ≡ why.WrongKind → ⊥
  settle_has_kind e x is was cause = has_kind (seen_board s.pass) r.given number outcomes_seen at (because e x why.WrongKind is was cause)

-- ---- what was planned
pub looks_between : (p q : Known) (v : View) (number : ℕ) (look : Look) → Waited p.view v → Finds v (λ b. ShowsProduct b number look) q.view → LooksBetween p q number look
looks_between p q v number look waited f =
    let known : Continues (record p.view { met = v.met }) q.view.seen = subst (λ (u : View). Continues u q.view.seen) waited.is f.0 in
    record {
      log = q.view.seen;
      continues = record { legal = known.legal; begins = known.begins; read = known.read };
      seen = extends_same q.view.seen;
      shows = subst (λ (b : Position). ShowsProduct (with_history b q.view.seen) number look) (ap (λ (u : View). u.opened) waited.is) f.1;
    }

pub looked_on : (p q r : Known) (number : ℕ) (look : Look) → Extends r.view.seen q.view.seen → LooksBetween p q number look → LooksBetween p r number look
looked_on p q r number look x b = record { log = b.log; continues = b.continues; seen = extends_on b.log q.view.seen r.view.seen b.seen x; shows = b.shows }

pub planned_on : (p q r : Known) (number : ℕ) (a : Planned) → Extends r.view.seen q.view.seen → IsPlanned p q number a → IsPlanned p r number a
planned_on p q r number a x is = (is.0, looked_on p q r number is.0 x is.1, is.2)

-- what was planned after a later call was planned after an earlier one
module _ (p q t : Known) (begins : Extends q.view.seen p.view.seen) (opened : q.view.opened ≡ p.view.opened) (read : q.view.read ≡ p.view.read) where
  continues_before : (log : List Noted) → Continues q.view log → Continues p.view log
  continues_before log c =
      let r = c.read in
      record {
        legal = subst (λ (b : Position). IsLegal (with_history b log)) opened c.legal;
        begins = extends_on p.view.seen q.view.seen log begins c.begins;
        read = omega arith;
      }

  looked_before : (number : ℕ) (look : Look) → LooksBetween q t number look → LooksBetween p t number look
  looked_before number look b = record {
    log = b.log;
    continues = continues_before b.log b.continues;
    seen = b.seen;
    shows = subst (λ (x : Position). ShowsProduct (with_history x b.log) number look) opened b.shows;
  }

  planned_before : (number : ℕ) (a : Planned) → IsPlanned q t number a → IsPlanned p t number a
  planned_before number a is =
      let look = is.0 in
      (look, looked_before number look is.1, subst (λ (x : Position). Answers (LeastJoined x.job.grid look) x.job.grid look a) opened is.2)

  waits_before : (number on : ℕ) → WaitsBetween q t number on → WaitsBetween p t number on
  waits_before number on w = record {
    log = w.log;
    continues = continues_before w.log w.continues;
    seen = w.seen;
    unclaimed = w.unclaimed;
    waits = subst (λ (x : Position). WaitsFor (with_history x w.log) number (Some on)) opened w.waits;
  }

  pub answered_before : (gs : List Given) (number : ℕ) (a : Attempt) → Answered gs q number a t → Answered gs p number a t
  answered_before gs number (attempt.Claimed place) x =
      let l = x.2 in
      (x.0, x.1, (l.0, looked_before number l.0 l.1, l.2))
  answered_before gs number (attempt.Settled place) x = x
  answered_before gs number (attempt.Taken place) (inl x) = inl x
  answered_before gs number (attempt.Taken place) (inr x) = inr (planned_before number (planned.Taken place) x)
  answered_before gs number (attempt.NotReady on) (inl x) = inl x
  answered_before gs number (attempt.NotReady on) (inr x) = inr (waits_before number on x)
  answered_before gs number attempt.NoReady x = planned_before number planned.NoReady x
  answered_before gs number attempt.Blocked x = planned_before number planned.Blocked x
  answered_before gs number (attempt.Refused why) x = (x.0, planned_before number (planned.Region x.0) x.1, x.2)
  answered_before gs number attempt.Stopped x = tt
  answered_before gs number attempt.Busy x = tt
  answered_before gs number attempt.Memory x = tt

-- a product that the planner finds waiting has no claim, and waits
pub planned_waits : (p q : Known) (number on : ℕ) → IsPlanned p q number (planned.NotReady on) → WaitsBetween p q number on
planned_waits p q number on is =
    let b = is.1 in
    let shown = b.shows.shown in
    let there = slice_get_within p.view.opened.job.products number shown.static shown.is in
    record {
      log = b.log;
      continues = b.continues;
      seen = b.seen;
      unclaimed = sym shown.taken ∙ is.2.0;
      waits = subst (WaitsFor (with_history p.view.opened b.log) number) is.2.1 (there, shown.waits);
    }

-- ---- the first question
module _ (r s : Routing) (number : ℕ) (a : TryWaits) (calls : Calls r s) (told : AfterWaiting r.pass.view (λ v. AnswersWaits v number a s.pass.view)) where
  was_opened : told.0.opened ≡ r.pass.view.opened
  was_opened = ap (λ (u : View). u.opened) told.1.is

  pub ask_goes : Goes r s
  ask_goes = goes_called r s calls (go a told.2)
    where
      go : (x : TryWaits) → AnswersWaits told.0 number x s.pass.view → Passed (IsRouted r.given) r.pass s.pass
      go waits.Busy heard = passed_busy (IsRouted r.given) r.pass s.pass told.0 calls.same calls.calm told.1 heard
      go waits.NoProduct heard = passed_found (IsRouted r.given) r.pass s.pass told.0 calls.same calls.calm told.1 (λ b. HasNoProduct b number) heard
      go (waits.Waits on) heard = passed_found (IsRouted r.given) r.pass s.pass told.0 calls.same calls.calm told.1 (λ b. WaitsFor b number (Some on)) heard
      go waits.Ready heard = passed_found (IsRouted r.given) r.pass s.pass told.0 calls.same calls.calm told.1 (λ b. WaitsFor b number None) heard

  pub ask_read : s.pass.view.read ≡ r.pass.view.read
  ask_read = go a told.2 ∙ ap (λ (u : View). u.read) told.1.is
    where
      go : (x : TryWaits) → AnswersWaits told.0 number x s.pass.view → s.pass.view.read ≡ told.0.read
      go waits.Busy heard = ap (λ (u : View). u.read) heard
      go waits.NoProduct heard = ap (λ (u : View). u.read) heard.2
      go (waits.Waits on) heard = ap (λ (u : View). u.read) heard.2
      go waits.Ready heard = ap (λ (u : View). u.read) heard.2

  pub ask_finds : IsSetUp r → number < length r.given → a ≡ waits.NoProduct → ⊥
  ask_finds up below is =
      let heard = subst (λ (x : TryWaits). AnswersWaits told.0 number x s.pass.view) is told.2 in
      let none = heard.1 in
      let same = as_many r up in
      let many : length told.0.opened.job.products ≡ length r.pass.view.opened.job.products = ap (λ (b : Position). length b.job.products) was_opened in
      omega arith

  pub ask_turned : (on : ℕ) → a ≡ waits.Waits on → TurnedMore 1 r.pass s.pass
  ask_turned on is =
      let heard = subst (λ (x : TryWaits). AnswersWaits told.0 number x s.pass.view) is told.2 in
      turned_found (IsRouted r.given) r.pass s.pass told.0 calls.same calls.calm told.1 (λ b. WaitsFor b number (Some on)) heard

  pub ask_waits : (on : ℕ) → a ≡ waits.Waits on → WaitsBetween r.pass s.pass number on
  ask_waits on is =
      let heard = subst (λ (x : TryWaits). AnswersWaits told.0 number x s.pass.view) is told.2 in
      let known : Continues (record r.pass.view { met = told.0.met }) s.pass.view.seen = subst (λ (u : View). Continues u s.pass.view.seen) told.1.is heard.0 in
      let b : Position = with_history r.pass.view.opened s.pass.view.seen in
      let here : WaitsFor b number (Some on) = subst (λ (x : Position). WaitsFor (with_history x s.pass.view.seen) number (Some on)) was_opened heard.1 in
      record {
        log = s.pass.view.seen;
        continues = record { legal = known.legal; begins = known.begins; read = known.read };
        seen = extends_same s.pass.view.seen;
        unclaimed = waiting_unclaimed b number on known.legal.legal here.1;
        waits = here;
      }

-- a product that the planner finds taken is begun
pub planned_begun : (p q : Known) (number place : ℕ) → IsPlanned p q number (planned.Taken place) → IsBegun q number
planned_begun p q number place is =
    let b = is.1 in
    inl (some_on (is_claim_of number) q.view.seen b.log b.seen (ap is_some (sym b.shows.shown.taken ∙ is.2)))

-- the planner's answer is for the look that the pass was given
pub is_planned : (p k q : Known) (v : View) (number : ℕ) (look : Look) (g : Grid) (a : Planned) → k ≡ p → g ≡ p.view.opened.job.grid → Waited k.view v → Finds v (λ b. ShowsProduct b number look) q.view
    → Answers (LeastJoined g look) g look a → IsPlanned p q number a
is_planned p k q v number look g a is same waited f answers = (
  look,
  looks_between p q v number look (subst (λ (x : Known). Waited x.view v) is waited) f,
  subst (λ (h : Grid). Answers (LeastJoined h look) h look a) same answers,
)

longer_than : (seen log : List Noted) → Extends log seen → length seen ≤ length log
longer_than seen log x = let e = ap length x.1 in omega (arith, length-append seen x.0)

-- ---- claims
pub claims_at : (q : Known) (v : View) (plan : Plan) (number : ℕ) (c : Claimed) → plan.number ≡ number → Accepts v (claim_of plan c.state) (λ b. AcceptsClaim b plan c) q.view → ClaimsAt q number c.place
claims_at q v plan number c is a = (
  plan.axis,
  plan.port,
  c.state,
  plan.cells,
  ap (slice_get q.view.seen) a.2.place
      ∙ (accepted_there v q.view (claim_of plan c.state) (λ b. AcceptsClaim b plan c) a
      ∙ ap (λ (n : ℕ). Some (note q.view.number (Claim n plan.axis plan.port c.state plan.cells))) is),
)

pub claims_on : (p q : Known) (number place : ℕ) → q.view.number ≡ p.view.number → Extends q.view.seen p.view.seen → ClaimsAt p number place → ClaimsAt q number place
claims_on p q number place same x c = (
  c.0,
  c.1,
  c.2,
  c.3,
  ap (λ (l : List Noted). slice_get l place) x.1
      ∙ (get_on p.view.seen x.0 place (note p.view.number (Claim number c.0 c.1 c.2 c.3)) c.4
      ∙ ap (λ (n : ℕ). Some (note n (Claim number c.0 c.1 c.2 c.3))) (sym same)),
)

pub claims_begun : (q : Known) (number place : ℕ) → ClaimsAt q number place → IsSome (claim_place (entries q.view.seen) number)
claims_begun q number place c = claimed_there q.view.seen place q.view.number number c.0 c.1 c.2 c.3 c.4

-- ---- the outcome and the release of a product that the router claimed
module _ (r s : Routing) (number : ℕ) (g : Given) (node : Ptr) (o : Result ℕ TryDeliver) (calls : Calls r s) (outcome : IsOutcomeAt r number g) (told : HeardOutcome r s number g node o) where
  pub deliver_goes : Goes r s
  deliver_goes = goes_called r s calls (pass_delivers r.given r.pass s.pass told.0 calls.same calls.calm told.1 number g node o outcome.0 told.2)

  pub deliver_delivers : IsSetUp r → ((n : Ptr) → o ≡ Err (deliver.Busy n) → ⊥) → IsSome (claim_place (past (seen_board r.pass)) number) → IsSome (delivered (past (seen_board s.pass)) number)
  deliver_delivers up free claimed =
      let same : told.0.seen ≡ r.pass.view.seen = ap (λ (u : View). u.seen) told.1.is in
      delivered_after told.0 s.pass.view r.given number g (outcomes_known r told.0 up told.1) outcome.0 outcome.1 node o
      (subst (λ (l : List Noted). IsSome (claim_place (entries l) number)) (sym same) claimed) told.2 free

  -- the board answered, unless the turn was held all along
  pub deliver_turned : ((n : Ptr) → o ≡ Err (deliver.Busy n) → ⊥) → TurnedMore 1 r.pass s.pass
  deliver_turned free = go o told.2 free
    where
      go : (x : Result ℕ TryDeliver) → Delivers told.0 number g node x s.pass.view → ((n : Ptr) → x ≡ Err (deliver.Busy n) → ⊥) → TurnedMore 1 r.pass s.pass
      go (Ok place) heard not = turned_added (IsRouted r.given) r.pass s.pass told.0 calls.same calls.calm told.1 heard.0 (λ b. AcceptsOutcome b number g heard.0 place) heard.1
      go (Err (deliver.Refused x)) heard not = turned_found (IsRouted r.given) r.pass s.pass told.0 calls.same calls.calm told.1 (λ b. RefusesOutcome b number g x.why) heard.0
      go (Err (deliver.Busy n)) heard not = absurd (not n refl)

module _ (r s : Routing) (number : ℕ) (g : Given) (node : Ptr) (o : Result ℕ TryRelease) (calls : Calls r s) (outcome : IsOutcomeAt r number g) (told : HeardRelease r s number node o) where
  pub release_goes : Goes r s
  release_goes = goes_called r s calls (pass_releases r.given r.pass s.pass told.0 calls.same calls.calm told.1 number node o told.2)

  pub release_releases : IsSetUp r → ((n : Ptr) → o ≡ Err (release.Busy n) → ⊥) → IsSome (delivered (past (seen_board r.pass)) number) → IsSome (release_place (past (seen_board s.pass)) number)
  release_releases up free done =
      let same : told.0.seen ≡ r.pass.view.seen = ap (λ (u : View). u.seen) told.1.is in
      released_after told.0 s.pass.view r.given number g (outcomes_known r told.0 up told.1) outcome.0 outcome.1 node o
      (subst (λ (l : List Noted). IsSome (delivered (entries l) number)) (sym same) done) told.2 free

-- delivered and released, the product is carried out
pub carried_out : (p q r : Known) (number place : ℕ) → Extends q.view.seen p.view.seen → r ≡ q → IsSome (delivered (past (seen_board p)) number) → IsSome (release_place (past (seen_board q)) number) → IsCarriedOut r number
carried_out p q r number place x same d l = subst (λ (k : Known). IsCarriedOut k number) (sym same) (delivered_on q.view.seen p.view.seen number x d, l)

-- a claim that is refused since the product is taken shows that it is begun
pub refused_begun : (q : Known) (plan : Plan) (why : ClaimWhy) (number : ℕ) → plan.number ≡ number → RefusesClaim (seen_board q) plan why → is_taken why ≡ true → IsBegun q number
refused_begun q plan claim_why.NoProduct number is x t = absurd (true≢false (sym t))
refused_begun q plan claim_why.NoRegion number is x t = absurd (true≢false (sym t))
refused_begun q plan (claim_why.Taken place) number is x t = inl (ap (λ (n : ℕ). is_some (claim_place (past (seen_board q)) n)) (sym is) ∙ ap is_some x.because.3)
refused_begun q plan (claim_why.Waits on) number is x t = absurd (true≢false (sym t))
refused_begun q plan (claim_why.AxisDiffers at) number is x t = absurd (true≢false (sym t))
refused_begun q plan (claim_why.Unfit fault) number is x t = absurd (true≢false (sym t))
refused_begun q plan (claim_why.Held cell by) number is x t = absurd (true≢false (sym t))
refused_begun q plan (claim_why.NoState port) number is x t = absurd (true≢false (sym t))

-- ---- a claim, and what the gate said to its answer
module _ (r s : Routing) (number : ℕ) (plan : Plan) (node : Ptr) (o : Result Claimed TryClaim) (calls : Calls r s) (is : plan.number ≡ number) (told : HeardClaim r s plan node o) where
  pub claim_goes : Goes r s
  claim_goes = goes_called r s calls (pass_claims r.given r.pass s.pass told.0 calls.same calls.calm told.1 plan node o told.2)

  pub claim_stands : (c : Claimed) → o ≡ Ok c → ClaimsAt s.pass number c.place
  claim_stands c was = claims_at s.pass told.0 plan number c is (subst (λ (y : Result Claimed TryClaim). Claims told.0 plan node y s.pass.view) was told.2)

  -- the claim stands after all that the pass had seen, and so after the look
  pub claim_later : (c : Claimed) → o ≡ Ok c → (p : Known) (t : Routing) → Goes s t → IsPlanned p r.pass number (planned.Region plan) → LookedBefore p t.pass number c.place
  claim_later c was p t more known =
      let a = subst (λ (y : Result Claimed TryClaim). Claims told.0 plan node y s.pass.view) was told.2 in
      let look = known.0 in
      let b = known.1 in
      let seen : length told.0.seen ≡ length r.pass.view.seen = ap (λ (u : View). length u.seen) told.1.is in
      let first = longer_than b.log r.pass.view.seen b.seen in
      let then = longer_than told.0.seen a.0 a.1.begins in
      let place = a.2.place in
      let shown = b.shows.shown.length-is in
      (look, looked_on p r.pass t.pass number look (extends_on r.pass.view.seen s.pass.view.seen t.pass.view.seen claim_goes.passed.seen more.passed.seen) b, omega arith)

  module _ (t : Routing) (x : ClaimRefused) (e : TryClaim) (was : o ≡ Err e) (refused : e ≡ claim.Refused x) (goes : Goes s t) where
    heard : Claims told.0 plan node (Err (claim.Refused x)) s.pass.view
    heard = subst (λ (y : Result Claimed TryClaim). Claims told.0 plan node y s.pass.view) (was ∙ ap Err refused) told.2

    refuses : RefusesClaim (seen_board s.pass) plan x.why
    refuses =
        let f = heard.0 in
        subst (λ (b : Position). RefusesClaim (with_history b s.pass.view.seen) plan x.why) (sym (ap (λ (u : View). u.opened) f.2)) f.1

    ended : (a : Attempt) → (a ≡ attempt.Refused x.why) ⊎ ((a ≡ attempt.Stopped) × Rose s.stops t.stops) → AttemptEnds r a t
    ended a (inl y) =
        let more : TurnedMore 1 r.pass s.pass = turned_found (IsRouted r.given) r.pass s.pass told.0 calls.same calls.calm told.1 (λ b. RefusesClaim b plan x.why) heard.0 in
        let m = goes.passed.turns in
        let turned : TurnedMore 1 r.pass t.pass = omega arith in
        subst (λ (z : Attempt). AttemptEnds r z t) (sym y) turned
    ended a (inr y) =
        let same : s.stops ≡ r.stops = ap (λ (z : Routing). z.stops) calls.is in
        let rose : Rose r.stops t.stops = rose_on r.stops s.stops t.stops (omega arith) y.1 in
        subst (λ (z : Attempt). AttemptEnds r z t) (sym y.0) rose

    pub gave_way : (a : Tried) → t.hand ≡ s.hand → GivesWay s x.why a t → IsTried r number a t
    gave_way a hand way = record {
      goes = goes_on r s t claim_goes goes;
      hand = hand ∙ ap (λ (y : Routing). y.hand) calls.is;
      ends = ended a.answer way.1;
      begun = λ b. begun_on s.pass t.pass number goes.passed.seen (refused_begun s.pass plan x.why number is refuses (sym way.0 ∙ b));
    }

    answered : (p : Known) (a : Attempt) → t.pass.view.seen ≡ s.pass.view.seen → (a ≡ attempt.Refused x.why) ⊎ ((a ≡ attempt.Stopped) × Rose s.stops t.stops)
        → IsPlanned p r.pass number (planned.Region plan) → Answered r.given p number a t.pass
    answered p a seen (inl y) known =
        let here : RefusesClaim (seen_board t.pass) plan x.why =
        subst (λ (l : List Noted). RefusesClaim (with_history t.pass.view.opened l) plan x.why) (sym seen)
        (subst (λ (b : Position). RefusesClaim (with_history b s.pass.view.seen) plan x.why) (sym goes.passed.same.1) refuses) in
        let begins = extends_on r.pass.view.seen s.pass.view.seen t.pass.view.seen claim_goes.passed.seen goes.passed.seen in
        subst (λ (z : Attempt). Answered r.given p number z t.pass) (sym y) (plan, planned_on p r.pass t.pass number (planned.Region plan) begins known, here)
    answered p a seen (inr y) known = subst (λ (z : Attempt). Answered r.given p number z t.pass) (sym y.0) tt

    pub gave_way_answered : (p : Known) (a : Tried) → t.pass.view.seen ≡ s.pass.view.seen → GivesWay s x.why a t → IsPlanned p r.pass number (planned.Region plan) → Answered r.given p number a.answer t.pass
    gave_way_answered p a seen way known = answered p a.answer seen way.1 known

-- ---- a claimed product that is delivered and released
module _ (r s : Routing) (number place : ℕ) (claimed : ClaimsAt r.pass number place) (goes : Goes r s) (hand : s.hand ≡ r.hand) where
  begun_on_the_way : (x : Routing) → Goes r x → IsBegun x.pass number
  begun_on_the_way x y = begun_on r.pass x.pass number y.passed.seen (inl (claims_begun r.pass number place claimed))

  pub delivery_busy : MetMore 1048576 r.pass s.pass → IsTried r number (record { answer = attempt.Busy; begun = true }) s
  delivery_busy met = record { goes = goes; hand = hand; ends = met; begun = λ b. begun_on_the_way s goes }

  module _ (t : Routing) (asked : IsAsked s t) where
    goes_t : Goes s t
    goes_t = goes_asked s t goes.passed.calm asked

    hand_t : t.hand ≡ s.hand
    hand_t = ap (λ (x : Routing). x.hand) asked.0

    pub delivery_stopped : Rose s.stops t.stops → IsTried r number (record { answer = attempt.Stopped; begun = true }) t
    delivery_stopped rose = tried_stopped r s t number goes hand goes_t hand_t rose (begun_on_the_way s goes)

    pub after_delivery : IsSome (delivered (past (seen_board s.pass)) number) → IsSome (delivered (past (seen_board t.pass)) number)
    after_delivery d = subst (λ (k : Known). IsSome (delivered (past (seen_board k)) number)) (sym (ap (λ (x : Routing). x.pass) asked.0)) d

    module _ (u : Routing) (more : Goes t u) (same : u.hand ≡ t.hand) where
      goes_u : Goes r u
      goes_u = goes_on r t u (goes_on r s t goes goes_t) more

      hand_u : u.hand ≡ r.hand
      hand_u = same ∙ (hand_t ∙ hand)

      pub release_busy : MetMore 1048576 t.pass u.pass → IsTried r number (record { answer = attempt.Busy; begun = true }) u
      release_busy met = tried_busy r t u number (goes_on r s t goes goes_t) (hand_t ∙ hand) more same met (begun_on_the_way t (goes_on r s t goes goes_t))

      module _ (w : Routing) (last : IsAsked u w) where
        goes_w : Goes u w
        goes_w = goes_asked u w more.passed.calm last

        pub release_stopped : Rose u.stops w.stops → IsTried r number (record { answer = attempt.Stopped; begun = true }) w
        release_stopped rose = tried_stopped r u w number goes_u hand_u goes_w (ap (λ (x : Routing). x.hand) last.0) rose (begun_on_the_way u goes_u)

        pub completed : TurnedMore 1 r.pass s.pass → IsTried r number (record { answer = attempt.Claimed place; begun = true }) w
        completed turned =
            let first : Tried = record { answer = attempt.Claimed place; begun = true } in
            let done : IsTried r number first s = record { goes = goes; hand = hand; ends = turned; begun = λ b. begun_on_the_way s goes } in
            tried_then r u w number first (tried_then r t u number first (tried_then r s t number first done goes_t hand_t) more same) goes_w (ap (λ (x : Routing). x.hand) last.0)

        pub completed_answered : (p : Known) → LookedBefore p r.pass number place → IsSome (delivered (past (seen_board s.pass)) number) → IsSome (release_place (past (seen_board u.pass)) number)
            → ClaimsAt w.pass number place × IsCarriedOut w.pass number × LookedBefore p w.pass number place
        completed_answered p look d l =
            let all = goes_on r u w goes_u goes_w in
            let begins = extends_on s.pass.view.seen t.pass.view.seen u.pass.view.seen goes_t.passed.seen more.passed.seen in (
              claims_on r.pass w.pass number place all.passed.same.2 all.passed.seen claimed,
              carried_out s.pass u.pass w.pass number place begins (ap (λ (x : Routing). x.pass) last.0) d l,
              (look.0, looked_on p r.pass w.pass number look.0 all.passed.seen look.1, look.2),
            )
