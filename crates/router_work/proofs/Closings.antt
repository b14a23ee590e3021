-- What the board is once all passes are handed in.
use Rattle.std.proofs.Common.{◌≡◌, ◌≢◌, ℕ, zero, ◌==◌, Bool, true, false, cond, List, [], ◌∷◌, ◌++◌, length, refl, sym, ap, ◌∙◌, subst, arith, length-append, append-nil, eq-eqb, ◌+◌}
use Rattle.std.proofs.lemmas.List.Elements.{All-nil, All-cons, All-head, All-tail, All-same, filter-append}
use Rattle.std.specs.List.{All}
use mathlib.Core.Logic.{dite}
use native.Mathlib.Decide.{ℕ_discrete}
use Rattle.source_model.specs.declared.Given.{Given}
use Rattle.board_core.specs.declared.Noted.{Noted}
use Rattle.board_core.specs.Position.{Position, IsLegal, with_history}
use Rattle.grid_lock.specs.Views.{entries_by, opener}
use Rattle.grid_lock.specs.Passes.{Known, NamedGrid, StandsIn, Closes, known}
use Rattle.grid_lock.proofs.Lists.{only_zero}
use Rattle.router_work.specs.Routes.{IsByWorker, Routes}
use Rattle.router_work.specs.inside.Workers.{HasSplit, IsBack}

nil_after : (a x : List Noted) → a ++ x ≡ a → x ≡ []
nil_after a [] e = refl
nil_after a (y ∷ x) e = absurd (let t = ap length e in omega (arith, length-append a (y ∷ x)))

-- ---- what holds of each worker's entries holds of all
kept : (P : Noted → Type 0) (x : Noted) (xs : List Noted) (b : Bool) → All P (cond b (x ∷ xs) xs) → All P xs
kept P x xs true a = All-tail P x xs a
kept P x xs false a = a

pub all_by : (P : Noted → Type 0) (log : List Noted) → ((n : ℕ) → All P (entries_by n log)) → All P log
all_by P [] each = All-nil P
all_by P (x ∷ xs) each =
    All-cons P x xs
    (All-head P x (entries_by x.by xs) (subst (λ (b : Bool). All P (cond b (x ∷ entries_by x.by xs) (entries_by x.by xs))) (eq-eqb x.by x.by refl) (each x.by)))
    (all_by P xs (λ n. kept P x (entries_by n xs) (x.by == n) (each n)))

-- the entries under a number are those of the pass that has it, if there is one
pub from_passes : (P : Noted → Type 0) (log : List Noted) (n : ℕ) (os : List Known) → All (λ (o : Known). StandsIn log o.view) os → All (λ (o : Known). All P o.view.mine) os
    → (All (λ (o : Known). o.view.number ≢ n) os → entries_by n log ≡ []) → All P (entries_by n log)
from_passes P log n [] stand mine none = All-same P (entries_by n log) [] (none (All-nil (λ (o : Known). o.view.number ≢ n))) (All-nil P)
from_passes P log n (o ∷ os) stand mine none =
    let Stand = λ (x : Known). StandsIn log x.view in
    let Mine = λ (x : Known). All P x.view.mine in
    dite (ℕ_discrete o.view.number n)
    (λ is. All-same P (entries_by n log) o.view.mine (ap (λ (m : ℕ). entries_by m log) (sym is) ∙ (All-head Stand o os stand).mine) (All-head Mine o os mine))
    (λ away. from_passes P log n os (All-tail Stand o os stand) (All-tail Mine o os mine) (λ rest. none (All-cons (λ (x : Known). x.view.number ≢ n) o os away rest)))

-- ---- the board at the end is the one that was opened, with entries of which each is as P says
-- the history grew by such entries, and is legal
abbrev pub GrewBy : (Noted → Type 0) → Position → Position → Type 0
GrewBy P b p = (added : List Noted) × (p ≡ with_history b (b.history ++ added)) × All P added × IsLegal p

module _ (P : Noted → Type 0) (g : NamedGrid) (first : Known) (others : List Known) (b p : Position) (c : Closes g first others p) where
  pub grew : g.opened ≡ b → first.view.number ≡ 0 → first.view.seen ≡ b.history → first.view.mine ≡ b.history → All (λ (e : Noted). e.by ≡ 0) b.history
      → All (λ (o : Known). All P o.view.mine) others → GrewBy P b p
  grew opened number seen mine zeros back =
      let more : List Noted = c.leads.begins.0 in
      let goes : p.history ≡ b.history ++ more = c.leads.begins.1 ∙ ap (λ (l : List Noted). l ++ more) seen in
      let own : entries_by 0 p.history ≡ b.history = ap (λ (m : ℕ). entries_by m p.history) (sym number) ∙ (c.leads.mine ∙ mine) in
      let parts : (n : ℕ) → entries_by n p.history ≡ entries_by n b.history ++ entries_by n more = λ n. ap (entries_by n) goes ∙ filter-append (λ (e : Noted). e.by == n) b.history more in
      let old = only_zero b.history zeros in
      let none : entries_by 0 more ≡ [] = nil_after b.history (entries_by 0 more) (ap (λ (l : List Noted). l ++ entries_by 0 more) (sym old.0) ∙ (sym (parts 0) ∙ own)) in (
        more,
        c.same ∙ (ap (λ (q : Position). with_history q p.history) opened ∙ ap (λ (l : List Noted). with_history b l) goes),
        all_by P more (λ n. dite (ℕ_discrete n 0)
            (λ is. All-same P (entries_by n more) [] (ap (λ (m : ℕ). entries_by m more) is ∙ none) (All-nil P))
            (λ away. All-same P (entries_by n more) (entries_by n p.history)
            (sym (parts n ∙ ap (λ (l : List Noted). l ++ entries_by n more) (old.1 n (omega arith))))
            (from_passes P p.history n others c.each back (λ rest. c.no_other n away rest)))),
        c.legal,
      )

  -- after pass 0 split others off, and where it split off none
  pub grew_split : (n : ℕ) (start : Known) → g.opened ≡ b → start ≡ known g.id (opener b) → HasSplit start n first → All (λ (e : Noted). e.by ≡ 0) b.history
      → All (λ (o : Known). All P o.view.mine) others → GrewBy P b p
  grew_split n start opened is split zeros back =
      let e : first ≡ known g.id (record (opener b) { made = 0 + n }) = split ∙ ap (λ (q : Known). known q.grid (record q.view { made = q.view.made + n })) is in
      grew opened (ap (λ (q : Known). q.view.number) e) (ap (λ (q : Known). q.view.seen) e) (ap (λ (q : Known). q.view.mine) e) zeros back

  pub grew_alone : (start : Known) → g.opened ≡ b → start ≡ known g.id (opener b) → first ≡ start → All (λ (e : Noted). e.by ≡ 0) b.history
      → All (λ (o : Known). All P o.view.mine) others → GrewBy P b p
  grew_alone start opened is same zeros back =
      let e : first ≡ known g.id (opener b) = same ∙ is in
      grew opened (ap (λ (q : Known). q.view.number) e) (ap (λ (q : Known). q.view.seen) e) (ap (λ (q : Known). q.view.mine) e) zeros back

-- nothing was done
pub grew_none : (P : Noted → Type 0) (b : Position) → IsLegal b → GrewBy P b b
grew_none P b legal = ([], ap (λ (l : List Noted). with_history b l) (sym (append-nil b.history)), All-nil P, legal)

-- ---- the same of routers and makers
module _ (given : List Given) (k : ℕ) where
  routes_by : (b p : Position) → GrewBy (IsByWorker given k) b p → Routes given k b p
  routes_by b p x = record { added = x.0; is = x.1; by_workers = x.2; legal = x.3 }

  module _ (g : NamedGrid) (first : Known) (others : List Known) (b p : Position) (c : Closes g first others p) where
    pub routes_split : (n : ℕ) (start : Known) → g.opened ≡ b → start ≡ known g.id (opener b) → HasSplit start n first → All (λ (e : Noted). e.by ≡ 0) b.history
        → All (IsBack g given k) others → Routes given k b p
    routes_split n start opened is split zeros back =
        routes_by b p (grew_split (IsByWorker given k) g first others b p c n start opened is split zeros (λ i d l. (back i d l).mine))

    pub routes_alone : (start : Known) → g.opened ≡ b → start ≡ known g.id (opener b) → first ≡ start → All (λ (e : Noted). e.by ≡ 0) b.history → All (IsBack g given k) others → Routes given k b p
    routes_alone start opened is same zeros back =
        routes_by b p (grew_alone (IsByWorker given k) g first others b p c start opened is same zeros (λ i d l. (back i d l).mine))

  pub unmoved : (b : Position) → IsLegal b → Routes given k b b
  unmoved b legal = routes_by b b (grew_none (IsByWorker given k) b legal)
