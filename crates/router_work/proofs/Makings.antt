-- What a step of a factory, accepted or refused, says of the pass that asked for it.
use Rattle.std.proofs.Common.{◌≡◌, ℕ, ◌<◌, ◌≤◌, List, [], ◌∷◌, ◌++◌, length, Result, Ok, Err, refl, sym, ap, subst, arith, length-append}
use denote.RawPtr.{Ptr}
use Rattle.magic_pool.specs.declared.Stepped.{Stepped}
use Rattle.board_core.specs.declared.Entry.{Entry}
use Rattle.board_core.specs.declared.Entry.TheVariants.{Step}
use Rattle.board_core.specs.declared.Noted.{Noted}
use Rattle.board_core.specs.declared.board.BoardStepRefused.{BoardStepRefused}
use Rattle.board_core.specs.declared.board.BoardStepWhy.{BoardStepWhy}
use Rattle.board_core.specs.declared.board.BoardStepWhy.TheVariants.{NoFactory, Stocked}
use Rattle.board_core.specs.Position.{Position, note, with_history}
use Rattle.board_core.specs.Causes.{StepRefusedBecause}
use Rattle.patch_layout.specs.Grid.{HasStore}
use Rattle.grid_lock.specs.declared.view.View.{View}
use Rattle.grid_lock.specs.Views.{Extends}
use Rattle.grid_lock.specs.declared.replies.TryStep.{TryStep}
use Rattle.grid_lock.specs.declared.replies.TryStep.TheVariants as step
use Rattle.grid_lock.specs.Passes.{Known, NamedGrid, IsPassOf, IsSamePass, IsCalm}
use Rattle.grid_lock.specs.Replies.{Accepts, Finds, Steps}
use Rattle.grid_lock.specs.Answers.{AcceptsStep, RefusesStep}
use Rattle.router_work.specs.Passing.{IsStepOf, Passed, seen_board}
use Rattle.router_work.specs.Routing.{HasFactory}
use Rattle.router_work.specs.Ends.{IsFull, TurnedMore}
use Rattle.router_work.specs.Waits.{OnlyRead, Waited}
use Rattle.router_work.proofs.Passings.{passed_on, passed_added, passed_found, passed_step, turned_found}

module _ (p q : Known) (v : View) (waited : Waited p.view v) where
  no_less : (log : List Noted) → Extends log v.seen → length p.view.seen ≤ length log
  no_less log x =
      let s : length v.seen ≡ length p.view.seen = ap (λ (u : View). length u.seen) waited.is in
      let a = ap length x.1 in
      omega (arith, length-append v.seen x.0)

  pub longer : (e : Entry) (Answers : Position → Type 0) → Accepts v e Answers q.view → length p.view.seen < length q.view.seen
  longer e Answers a =
      let h = no_less a.0 a.1.begins in
      let l : length q.view.seen ≡ length (a.0 ++ note v.number e ∷ []) = ap (λ (u : View). length u.seen) a.3 in
      omega (arith, length-append a.0 (note v.number e ∷ []))

  pub no_shorter : (Answers : Position → Type 0) → Finds v Answers q.view → length p.view.seen ≤ length q.view.seen
  no_shorter Answers f = no_less q.view.seen f.0.begins

because_full : (why : BoardStepWhy) (q : Known) (f : ℕ) → ((store : ℕ) × HasStore q.view.opened.job.grid f store) → StepRefusedBecause why (seen_board q) f → IsFull q f
because_full NoFactory q f has because = absurd (because has.1.0 (has.1.1, has.0, has.1.2))
because_full (Stocked n) q f has because = (n, because.0, because.1, because.2)

-- the factory is there, so that a step is refused only where its store is full
pub full : (g : NamedGrid) (q : Known) (f : ℕ) (why : BoardStepWhy) (v : View) → IsPassOf g q → HasFactory g f → Finds v (λ b. RefusesStep b f why) q.view → IsFull q f
full g q f why v of has found =
    because_full why q f
    (subst (λ (b : Position). (store : ℕ) × HasStore b.job.grid f store) (sym of.1) has)
    (subst (λ (b : Position). StepRefusedBecause why (with_history b q.view.seen) f) (sym (ap (λ (u : View). u.opened) found.2)) found.1.because)

module _ (s p q : Known) (f : ℕ) (node : Ptr) (went : Passed (IsStepOf f) s p) (same : IsSamePass p q) (calm : IsCalm q) where
  pub accepted : (r : ℕ × Stepped) → ((v : View) × Waited p.view v × Steps v f node (Ok r) q.view) → Passed (IsStepOf f) s q
  accepted r told =
      passed_on (IsStepOf f) s p q went (passed_added (IsStepOf f) p q told.0 same calm told.1 (Step f) (λ b. AcceptsStep b f r) refl told.2)

  pub refused : (g : NamedGrid) (r : BoardStepRefused) → IsPassOf g q → HasFactory g f → ((v : View) × Waited p.view v × Steps v f node (Err (step.Refused r)) q.view)
      → Passed (IsStepOf f) s q × TurnedMore 1 p q × IsFull q f
  refused g r of has told =
      let found : Finds told.0 (λ b. RefusesStep b f r.why) q.view = told.2.0 in (
        passed_on (IsStepOf f) s p q went (passed_found (IsStepOf f) p q told.0 same calm told.1 (λ b. RefusesStep b f r.why) found),
        turned_found (IsStepOf f) p q told.0 same calm told.1 (λ b. RefusesStep b f r.why) found,
        full g q f r.why told.0 of has found,
      )

  -- the same of a result that is such a refusal
  pub refused_as : (g : NamedGrid) (r : BoardStepRefused) (result : Result (ℕ × Stepped) TryStep) → result ≡ Err (step.Refused r) → IsPassOf g q → HasFactory g f
      → ((v : View) × Waited p.view v × Steps v f node result q.view) → Passed (IsStepOf f) s q × TurnedMore 1 p q × IsFull q f
  refused_as g r result is of has told =
      refused g r of has (subst (λ x. (v : View) × Waited p.view v × Steps v f node x q.view) is told)

-- a step, whatever came of it
pub stepped : (f : ℕ) (s p q : Known) (node : Ptr) (result : Result (ℕ × Stepped) TryStep) → Passed (IsStepOf f) s p → IsSamePass p q → IsCalm q
    → ((v : View) × Waited p.view v × Steps v f node result q.view) → Passed (IsStepOf f) s q
stepped f s p q node result went same calm told =
    passed_on (IsStepOf f) s p q went (passed_step (IsStepOf f) p q told.0 f node result refl same calm told.1 told.2)

-- a factory that is full stays so while lengths are read
pub full_read : (p q : Known) (f : ℕ) → OnlyRead p.view q.view → IsFull p f → IsFull q f
full_read p q f is full = subst (λ (u : View). IsFull (record p { view = u }) f) (sym is) full
