-- What the deliverer's entries are.
use Rattle.std.proofs.Common.{◌≡◌, ℕ, List, [], ◌∷◌, ◌++◌, Result, Ok, Err, refl, sym, ap, ◌∙◌, subst, append-nil}
use Rattle.std.specs.List.{All}
use Rattle.std.proofs.lemmas.Grind.{flat_map-append}
use Rattle.std.proofs.lemmas.List.Elements.{All-nil, All-cons, All-head, All-tail}
use denote.RawPtr.{Ptr}
use Rattle.source_model.specs.declared.Given.{Given}
use Rattle.source_model.specs.declared.Given.TheVariants as given
use Rattle.board_core.specs.declared.Entry.{Entry}
use Rattle.board_core.specs.declared.Entry.TheVariants.{Claim, Deliver, Release, Step, Settle}
use Rattle.board_core.specs.declared.Noted.{Noted}
use Rattle.board_core.specs.declared.board.DeliverRefused.{DeliverRefused}
use Rattle.board_core.specs.Causes.{EntryOf}
use Rattle.board_core.specs.Position.{note}
use Rattle.grid_lock.specs.declared.view.View.{View}
use Rattle.grid_lock.specs.declared.replies.TryDeliver.{TryDeliver}
use Rattle.grid_lock.specs.declared.replies.TryDeliver.TheVariants as deliver
use Rattle.grid_lock.specs.Passes.{Known, IsSamePass, IsCalm}
use Rattle.grid_lock.specs.Answers.{AcceptsOutcome, RefusesOutcome}
use Rattle.grid_lock.specs.Replies.{Delivers}
use Rattle.router_work.specs.Passing.{Passed}
use Rattle.router_work.specs.Waits.{OnlyRead, Waited}
use Rattle.router_work.proofs.Passings.{passed_added, passed_busy, passed_found}
use Rattle.arrival_line.specs.declared.arrival.Arrival.{Arrival}
use Rattle.live_readout.specs.Listed.{arrival}
use Rattle.live_readout.specs.Entries.{IsHanding}
use Rattle.live_readout.specs.inside.Entries.{arrivals_in, delivered_by}
use Rattle.live_readout.specs.inside.Workers.{IsAnyHanding, IsReleaseOf}
use Rattle.live_readout.proofs.Passings.{passed_weaker}

pub delivered_by-append : (xs ys : List Noted) → delivered_by (xs ++ ys) ≡ delivered_by xs ++ delivered_by ys
delivered_by-append xs ys = flat_map-append (λ (n : Noted). arrivals_in n.entry) xs ys

-- releases deliver nothing
none_delivered : (p : ℕ) (log : List Noted) → All (λ (n : Noted). IsReleaseOf p n.entry) log → delivered_by log ≡ []
none_delivered p [] all = refl
none_delivered p (n ∷ log) all =
    ap (λ (e : Entry). arrivals_in e ++ delivered_by log) (All-head (λ (m : Noted). IsReleaseOf p m.entry) n log all)
    ∙ none_delivered p log (All-tail (λ (m : Noted). IsReleaseOf p m.entry) n log all)

pub released_same : (p : ℕ) (q r : Known) → Passed (IsReleaseOf p) q r → delivered_by r.view.mine ≡ delivered_by q.view.mine
released_same p q r x =
    ap delivered_by x.mine ∙ delivered_by-append q.view.mine x.added
    ∙ ap (λ l. delivered_by q.view.mine ++ l) (none_delivered p x.added x.makes) ∙ append-nil (delivered_by q.view.mine)

releases : (p : ℕ) (e : Entry) → IsReleaseOf p e → IsAnyHanding e
releases p e is = subst IsAnyHanding (sym is) tt

pub released_any : (p : ℕ) (q r : Known) → Passed (IsReleaseOf p) q r → Passed IsAnyHanding q r
released_any p q r x = passed_weaker (IsReleaseOf p) IsAnyHanding q r (releases p) x

-- reads of the length deliver nothing
pub read_same : (p q : Known) → OnlyRead p.view q.view → delivered_by q.view.mine ≡ delivered_by p.view.mine
read_same p q is = ap (λ (u : View). delivered_by u.mine) is

-- the entry of an outcome other than that of a settled product
delivers_it : (p : ℕ) (g : Given) (e : Entry) → (g ≡ given.Settled → ⊥) → EntryOf p g e → e ≡ Deliver p g
delivers_it p (given.Rotation raw x) e region is = is
delivers_it p (given.Measure raw) e region is = is
delivers_it p given.Settled e region is = absurd (region refl)

-- ---- one call that delivers, after the turn was found held any number of times
module _ (p q : Known) (same : IsSamePass p q) (calm : IsCalm q) (v : View) (waited : Waited p.view v) (n : ℕ) (g : Given) (region : g ≡ given.Settled → ⊥) (node : Ptr) where
  own : v.mine ≡ p.view.mine
  own = ap (λ (u : View). u.mine) waited.is

  pub handed_passed : (r : Result ℕ TryDeliver) → Delivers v n g node r q.view → Passed IsAnyHanding p q
  handed_passed (Ok place) told =
      let is = delivers_it n g told.0 region told.1.2.entry in
      passed_added IsAnyHanding p q v same calm waited told.0 (λ b. AcceptsOutcome b n g told.0 place) (subst IsAnyHanding (sym is) tt) told.1
  handed_passed (Err (deliver.Refused r)) told = passed_found IsAnyHanding p q v same calm waited (λ b. RefusesOutcome b n g r.why) told.0
  handed_passed (Err (deliver.Busy m)) told = passed_busy IsAnyHanding p q v same calm waited told.0

  pub handed_made : (place : ℕ) → Delivers v n g node (Ok place) q.view → delivered_by q.view.mine ≡ delivered_by p.view.mine ++ arrival n g ∷ []
  handed_made place told =
      let is = delivers_it n g told.0 region told.1.2.entry in
      ap (λ (w : View). delivered_by w.mine) told.1.3 ∙ delivered_by-append v.mine (note v.number told.0 ∷ [])
      ∙ ap (λ (e : Entry). delivered_by v.mine ++ (arrivals_in e ++ [])) is
      ∙ ap (λ (l : List Noted). delivered_by l ++ arrival n g ∷ []) own

  pub refused_made : (r : DeliverRefused) → Delivers v n g node (Err (deliver.Refused r)) q.view → delivered_by q.view.mine ≡ delivered_by p.view.mine
  refused_made r told = ap (λ (w : View). delivered_by w.mine) told.0.2 ∙ ap delivered_by own

  pub busy_made : (m : Ptr) → Delivers v n g node (Err (deliver.Busy m)) q.view → delivered_by q.view.mine ≡ delivered_by p.view.mine
  busy_made m told = ap (λ (w : View). delivered_by w.mine) told.0 ∙ ap delivered_by own

-- ---- what holds of each arrival that was delivered holds of each entry
module _ (Fits : Arrival → Type 0) where
  one : (e : Entry) (rest : List Arrival) → IsAnyHanding e → All Fits (arrivals_in e ++ rest) → IsHanding Fits e × All Fits rest
  one (Claim p axis port state cells) rest any fits = absurd any
  one (Deliver p g) rest any fits = (All-head Fits (arrival p g) rest fits, All-tail Fits (arrival p g) rest fits)
  one (Release p) rest any fits = (tt, fits)
  one (Step f) rest any fits = absurd any
  one (Settle p flip) rest any fits = absurd any

  pub handed : (log : List Noted) → All (λ (n : Noted). IsAnyHanding n.entry) log → All Fits (delivered_by log) → All (λ (n : Noted). IsHanding Fits n.entry) log
  handed [] any fits = All-nil (λ (n : Noted). IsHanding Fits n.entry)
  handed (n ∷ log) any fits =
      let Any = λ (m : Noted). IsAnyHanding m.entry in
      let Hands = λ (m : Noted). IsHanding Fits m.entry in
      let x = one n.entry (delivered_by log) (All-head Any n log any) fits in
      All-cons Hands n log x.0 (handed log (All-tail Any n log any) x.1)
