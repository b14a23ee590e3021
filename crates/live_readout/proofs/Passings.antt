-- What the calls on a grid make of a pass in a live run.
use Rattle.std.proofs.Common.{ℕ, ◌++◌, None, Some, Result, Ok, Err, refl, sym, subst}
use Rattle.std.specs.List.{All}
use Rattle.std.specs.Prelude.{IfOk}
use Rattle.std.proofs.lemmas.List.Elements.{All-append, All-same, All-weaker}
use denote.RawPtr.{Ptr}
use Rattle.pauli_product.specs.Signed.{IsNotIdentity}
use Rattle.source_model.specs.declared.Given.TheVariants as given
use Rattle.patch_layout.specs.declared.look.Look.{Look}
use Rattle.patch_layout.specs.declared.plan.Plan.{Plan}
use Rattle.board_core.specs.declared.Entry.{Entry}
use Rattle.board_core.specs.declared.Entry.TheVariants.{Release}
use Rattle.board_core.specs.declared.Noted.{Noted}
use Rattle.board_core.specs.declared.board.Claimed.{Claimed}
use Rattle.board_core.specs.Causes.{EntryOf, claim_of}
use Rattle.grid_lock.specs.declared.view.View.{View}
use Rattle.grid_lock.specs.declared.replies.TryLook.{TryLook}
use Rattle.grid_lock.specs.declared.replies.TryLook.TheVariants as look
use Rattle.grid_lock.specs.declared.replies.TryWaits.{TryWaits}
use Rattle.grid_lock.specs.declared.replies.TryWaits.TheVariants as waits
use Rattle.grid_lock.specs.declared.replies.TryClaim.{TryClaim}
use Rattle.grid_lock.specs.declared.replies.TryClaim.TheVariants as claim
use Rattle.grid_lock.specs.declared.replies.TryDeliver.{TryDeliver}
use Rattle.grid_lock.specs.declared.replies.TryDeliver.TheVariants as deliver
use Rattle.grid_lock.specs.declared.replies.TryRelease.{TryRelease}
use Rattle.grid_lock.specs.declared.replies.TryRelease.TheVariants as release
use Rattle.grid_lock.specs.Passes.{Known, IsSamePass, IsCalm}
use Rattle.grid_lock.specs.Answers.{AcceptsClaim, AcceptsOutcome, AcceptsRelease, HasNoProduct, RefusesClaim, RefusesOutcome, RefusesRelease, ShowsNothing, ShowsProduct, WaitsFor}
use Rattle.grid_lock.specs.Replies.{AnswersWaits, Looks, Claims, Delivers, Releases}
use Rattle.router_work.specs.Passing.{Passed}
use Rattle.router_work.specs.Waits.{Waited}
use Rattle.router_work.proofs.Passings.{passed_added, passed_busy, passed_found}
use Rattle.live_readout.specs.Entries.{IsTaking}
use Rattle.live_readout.specs.inside.Workers.{IsReleaseOf}

module _ (p q : Known) (same : IsSamePass p q) (calm : IsCalm q) (v : View) (waited : Waited p.view v) where
  pub asked : (n : ℕ) (r : TryWaits) → AnswersWaits v n r q.view → Passed IsTaking p q
  asked n waits.Ready told = passed_found IsTaking p q v same calm waited (λ b. WaitsFor b n None) told
  asked n (waits.Waits on) told = passed_found IsTaking p q v same calm waited (λ b. WaitsFor b n (Some on)) told
  asked n waits.Busy told = passed_busy IsTaking p q v same calm waited told
  asked n waits.NoProduct told = passed_found IsTaking p q v same calm waited (λ b. HasNoProduct b n) told

  pub looked : (n : ℕ) (before after : Look) (r : Result (Unit {0}) TryLook) → Looks v n before r q.view after → Passed IsTaking p q
  looked n before after (Ok _) told = passed_found IsTaking p q v same calm waited (λ b. ShowsProduct b n after) told
  looked n before after (Err look.NoProduct) told = passed_found IsTaking p q v same calm waited (λ b. ShowsNothing b n before after) told
  looked n before after (Err look.Busy) told = passed_busy IsTaking p q v same calm waited told.0

  pub claimed : (plan : Plan) (node : Ptr) (r : Result Claimed TryClaim) → Claims v plan node r q.view → Passed IsTaking p q
  claimed plan node (Ok c) told = passed_added IsTaking p q v same calm waited (claim_of plan c.state) (λ b. AcceptsClaim b plan c) tt told
  claimed plan node (Err (claim.Refused r)) told = passed_found IsTaking p q v same calm waited (λ b. RefusesClaim b plan r.why) told.0
  claimed plan node (Err (claim.Busy n m)) told = passed_busy IsTaking p q v same calm waited told.0

  settles : (n : ℕ) (e : Entry) → EntryOf n given.Settled e → IsTaking e
  settles n e is = subst IsTaking (sym is.1) tt

  pub settled : (n : ℕ) (node : Ptr) (r : Result ℕ TryDeliver) → Delivers v n given.Settled node r q.view → Passed IsTaking p q
  settled n node (Ok place) told =
      passed_added IsTaking p q v same calm waited told.0 (λ b. AcceptsOutcome b n given.Settled told.0 place) (settles n told.0 told.1.2.entry) told.1
  settled n node (Err (deliver.Refused r)) told = passed_found IsTaking p q v same calm waited (λ b. RefusesOutcome b n given.Settled r.why) told.0
  settled n node (Err (deliver.Busy m)) told = passed_busy IsTaking p q v same calm waited told.0

  pub released : (n : ℕ) (node : Ptr) (r : Result ℕ TryRelease) → Releases v n node r q.view → Passed (IsReleaseOf n) p q
  released n node (Ok place) told = passed_added (IsReleaseOf n) p q v same calm waited (Release n) (λ b. AcceptsRelease b n place) refl told
  released n node (Err (release.Refused r)) told = passed_found (IsReleaseOf n) p q v same calm waited (λ b. RefusesRelease b n r.why) told.0
  released n node (Err (release.Busy m)) told = passed_busy (IsReleaseOf n) p q v same calm waited told.0

-- a look that shows a product shows a letter
pub shows_letter : (v w : View) (n : ℕ) (before after : Look) (r : Result (Unit {0}) TryLook) → Looks v n before r w after → IfOk r (λ _. IsNotIdentity after.axis)
shows_letter v w n before after (Ok _) told = told.1.letter
shows_letter v w n before after (Err e) told = tt

-- ---- what holds of the entries of a pass
pub passed_weaker : (M N : Entry → Type 0) (p q : Known) → ((e : Entry) → M e → N e) → Passed M p q → Passed N p q
passed_weaker M N p q weaker x = record {
  same = x.same;
  calm = x.calm;
  seen = x.seen;
  added = x.added;
  mine = x.mine;
  makes = All-weaker (λ (n : Noted). M n.entry) (λ (n : Noted). N n.entry) (λ n. weaker n.entry) x.added x.makes;
  met = x.met;
  turns = x.turns;
}

pub makes_all : (M : Entry → Type 0) (p q : Known) → Passed M p q → All (λ (n : Noted). M n.entry) p.view.mine → All (λ (n : Noted). M n.entry) q.view.mine
makes_all M p q x all = All-same (λ (n : Noted). M n.entry) q.view.mine (p.view.mine ++ x.added) x.mine (All-append (λ (n : Noted). M n.entry) p.view.mine x.added all x.makes)
