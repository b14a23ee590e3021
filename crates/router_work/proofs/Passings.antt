-- What the calls on a grid make of a worker's pass.
use Rattle.std.proofs.Common.{◌≡◌, inl, inr, ℕ, ◌+◌, ◌≤◌, Bool, List, [], ◌∷◌, ◌++◌, position, is_some, IsSome, Result, Ok, Err, refl, sym, ap, ◌∙◌, subst, arith, append_assoc}
use Rattle.std.proofs.lemmas.List.{append-nil, map-append}
use Rattle.std.proofs.lemmas.List.Elements.{All-append, All-nil}
use Rattle.std.proofs.lemmas.Bool.{true≢false, or_cases, or_left, or_right}
use Rattle.std.specs.List.{All}
use denote.RawPtr.{Ptr}
use Rattle.magic_pool.specs.declared.Stepped.{Stepped}
use Rattle.board_core.specs.declared.Entry.{Entry}
use Rattle.board_core.specs.declared.Entry.TheVariants.{Step}
use Rattle.board_core.specs.declared.Noted.{Noted}
use Rattle.board_core.specs.History.{entries, is_claim_of, is_done_by}
use Rattle.board_core.specs.Position.{Position, note}
use Rattle.board_core.proofs.Places.{place_cons}
use Rattle.grid_lock.specs.declared.view.View.{View}
use Rattle.grid_lock.specs.declared.replies.TryStep.{TryStep}
use Rattle.grid_lock.specs.declared.replies.TryStep.TheVariants as step
use Rattle.grid_lock.specs.Views.{Extends, met}
use Rattle.grid_lock.specs.Passes.{Known, IsSamePass, IsCalm}
use Rattle.grid_lock.specs.Answers.{AcceptsStep, RefusesStep}
use Rattle.grid_lock.specs.Replies.{Accepts, Finds, Measures, Steps}
use Rattle.grid_lock.proofs.Lists.{extends_longer, all_more}
use Rattle.router_work.specs.Passing.{Passed}
use Rattle.router_work.specs.Tries.{IsBegun}
use Rattle.router_work.specs.Ends.{TurnedMore}
use Rattle.router_work.specs.Waits.{OnlyRead, Waited}

-- ---- histories that extend one another
pub extends_same : (log : List Noted) → Extends log log
extends_same log = ([], sym (append-nil log))

pub extends_on : (a b c : List Noted) → Extends b a → Extends c b → Extends c a
extends_on a b c x y = (x.0 ++ y.0, y.1 ∙ (ap (λ (l : List Noted). l ++ y.0) x.1 ∙ append_assoc a x.0 y.0))

-- ---- a pass that went on
pub passed_none : (Makes : Entry → Type 0) (p : Known) → IsCalm p → Passed Makes p p
passed_none Makes p calm = record {
  same = (refl, refl, refl, refl);
  calm = calm;
  seen = extends_same p.view.seen;
  added = [];
  mine = sym (append-nil p.view.mine);
  makes = All-nil (λ (n : Noted). Makes n.entry);
  met = omega arith;
  turns = omega arith;
}

pub passed_on : (Makes : Entry → Type 0) (p q r : Known) → Passed Makes p q → Passed Makes q r → Passed Makes p r
passed_on Makes p q r x y = record {
  same = (y.same.0 ∙ x.same.0, y.same.1 ∙ x.same.1, y.same.2 ∙ x.same.2, y.same.3 ∙ x.same.3);
  calm = y.calm;
  seen = extends_on p.view.seen q.view.seen r.view.seen x.seen y.seen;
  added = x.added ++ y.added;
  mine = y.mine ∙ (ap (λ (l : List Noted). l ++ y.added) x.mine ∙ append_assoc p.view.mine x.added y.added);
  makes = All-append (λ (n : Noted). Makes n.entry) x.added y.added x.makes y.makes;
  met = omega arith;
  turns = omega arith;
}

-- ---- one call, after the turn was found held any number of times
module _ (Makes : Entry → Type 0) (p q : Known) (v : View) (same : IsSamePass p q) (calm : IsCalm q) (waited : Waited p.view v) where
  -- the pass added these entries to what it knew
  goes : (seen mine more : List Noted) (turns : ℕ) → Extends seen p.view.seen → mine ≡ v.mine ++ more → All (λ (n : Noted). Makes n.entry) more
      → q.view.seen ≡ seen → q.view.mine ≡ mine → v.met ≤ q.view.met → q.view.turns ≡ turns → v.turns ≤ turns → Passed Makes p q
  goes seen mine more turns begins is makes seen-is mine-is met-is turns-is rises =
      let w = waited.met in
      let t : v.turns ≡ p.view.turns = ap (λ (u : View). u.turns) waited.is in
      record {
        same = same;
        calm = calm;
        seen = subst (λ (l : List Noted). Extends l p.view.seen) (sym seen-is) begins;
        added = more;
        mine = mine-is ∙ (is ∙ ap (λ (u : View). u.mine ++ more) waited.is);
        makes = makes;
        met = omega arith;
        turns = omega arith;
      }

  -- what extends what it knew then extends what it knew at first
  begun_at_first : (log : List Noted) → Extends log v.seen → Extends log p.view.seen
  begun_at_first log x = subst (λ (l : List Noted). Extends log l) (ap (λ (u : View). u.seen) waited.is) x

  pub passed_found : (Answers : Position → Type 0) → Finds v Answers q.view → Passed Makes p q
  passed_found Answers f =
      let e = f.2 in
      let m : q.view.met ≡ v.met = ap (λ (u : View). u.met) e in
      goes q.view.seen v.mine [] (v.turns + 1) (begun_at_first q.view.seen f.0.begins) (sym (append-nil v.mine)) (All-nil (λ (n : Noted). Makes n.entry))
      refl (ap (λ (u : View). u.mine) e) (omega arith) (ap (λ (u : View). u.turns) e) (omega arith)

  pub passed_added : (e : Entry) (Answers : Position → Type 0) → Makes e → Accepts v e Answers q.view → Passed Makes p q
  passed_added e Answers makes a =
      let x : Noted = note v.number e in
      let log : List Noted = a.0 in
      let is = a.3 in
      let m : q.view.met ≡ v.met = ap (λ (u : View). u.met) is in
      goes (log ++ x ∷ []) (v.mine ++ x ∷ []) (x ∷ []) (v.turns + 1)
      (extends_longer log p.view.seen (x ∷ []) (begun_at_first log a.1.begins)) refl
      (all_more (λ (n : Noted). Makes n.entry) [] x (All-nil (λ (n : Noted). Makes n.entry)) makes)
      (ap (λ (u : View). u.seen) is) (ap (λ (u : View). u.mine) is) (omega arith) (ap (λ (u : View). u.turns) is) (omega arith)

  pub passed_busy : q.view ≡ met v → Passed Makes p q
  passed_busy e =
      let m : q.view.met ≡ v.met + 1 = ap (λ (u : View). u.met) e in
      goes v.seen v.mine [] v.turns (begun_at_first v.seen (extends_same v.seen)) (sym (append-nil v.mine)) (All-nil (λ (n : Noted). Makes n.entry))
      (ap (λ (u : View). u.seen) e) (ap (λ (u : View). u.mine) e) (omega arith) (ap (λ (u : View). u.turns) e) (omega arith)

  -- the board answered once
  pub turned_found : (Answers : Position → Type 0) → Finds v Answers q.view → TurnedMore 1 p q
  turned_found Answers f =
      let t : q.view.turns ≡ v.turns + 1 = ap (λ (u : View). u.turns) f.2 in
      let s : v.turns ≡ p.view.turns = ap (λ (u : View). u.turns) waited.is in
      omega arith

  pub turned_added : (e : Entry) (Answers : Position → Type 0) → Accepts v e Answers q.view → TurnedMore 1 p q
  turned_added e Answers a =
      let t : q.view.turns ≡ v.turns + 1 = ap (λ (u : View). u.turns) a.3 in
      let s : v.turns ≡ p.view.turns = ap (λ (u : View). u.turns) waited.is in
      omega arith

-- a step of a factory, whatever came of it
pub passed_step : (Makes : Entry → Type 0) (p q : Known) (v : View) (f : ℕ) (node : Ptr) (r : Result (ℕ × Stepped) TryStep) → Makes (Step f) → IsSamePass p q → IsCalm q → Waited p.view v → Steps v f node r q.view → Passed Makes p q
passed_step Makes p q v f node (Ok r) makes same calm waited told = passed_added Makes p q v same calm waited (Step f) (λ b. AcceptsStep b f r) makes told
passed_step Makes p q v f node (Err (step.Refused r)) makes same calm waited told = passed_found Makes p q v same calm waited (λ b. RefusesStep b f r.why) told.0
passed_step Makes p q v f node (Err (step.Busy n)) makes same calm waited told = passed_busy Makes p q v same calm waited told.0

pub only_read : (v : View) (n : ℕ) (w : View) → Measures v n w → OnlyRead v w
only_read v n w told = subst (λ (u : View). OnlyRead v u) (sym told.2) refl

-- the history's length was read, any number of times
pub passed_read : (Makes : Entry → Type 0) (p q : Known) → IsSamePass p q → IsCalm q → OnlyRead p.view q.view → Passed Makes p q
passed_read Makes p q same calm is =
    let m : q.view.met ≡ p.view.met = ap (λ (u : View). u.met) is in
    let t : q.view.turns ≡ p.view.turns = ap (λ (u : View). u.turns) is in
    record {
      same = same;
      calm = calm;
      seen = ([], ap (λ (u : View). u.seen) is ∙ sym (append-nil p.view.seen));
      added = [];
      mine = ap (λ (u : View). u.mine) is ∙ sym (append-nil p.view.mine);
      makes = All-nil (λ (n : Noted). Makes n.entry);
      met = omega arith;
      turns = omega arith;
    }

-- the history's length was asked
pub passed_measured : (Makes : Entry → Type 0) (p q : Known) (n : ℕ) → IsSamePass p q → IsCalm q → Measures p.view n q.view → Passed Makes p q
passed_measured Makes p q n same calm told = passed_read Makes p q same calm (only_read p.view n q.view told)

-- ---- what stays as a history goes on
pub place_stays : {A : Type 0} (test : A → Bool) (xs ys : List A) → IsSome (position test xs) → IsSome (position test (xs ++ ys))
place_stays test [] ys s = absurd (true≢false (sym s))
place_stays test (x ∷ xs) ys s =
    place_cons test x (xs ++ ys) ∙ elim (or_cases (test x) (is_some (position test xs)) (sym (place_cons test x xs) ∙ s)) [
      | inl a ↦ or_left (test x) (is_some (position test (xs ++ ys))) a
      | inr b ↦ or_right (test x) (is_some (position test (xs ++ ys))) (place_stays test xs ys b)
    ]

-- what was seen goes on as the history of the entries does
pub entries_on : (log seen : List Noted) (x : Extends log seen) → entries log ≡ entries seen ++ entries x.0
entries_on log seen x = ap entries x.1 ∙ map-append (λ (n : Noted). n.entry) seen x.0

pub some_on : (test : Entry → Bool) (log seen : List Noted) → Extends log seen → IsSome (position test (entries seen)) → IsSome (position test (entries log))
some_on test log seen x s = ap (λ h. is_some (position test h)) (entries_on log seen x) ∙ place_stays test (entries seen) (entries x.0) s

pub begun_on : (p q : Known) (number : ℕ) → Extends q.view.seen p.view.seen → IsBegun p number → IsBegun q number
begun_on p q number x (inl s) = inl (some_on (is_claim_of number) q.view.seen p.view.seen x s)
begun_on p q number x (inr s) = inr (some_on (is_done_by number) q.view.seen p.view.seen x s)
