-- Workers before and after their work.
use Rattle.std.proofs.Common.{◌≡◌, ℕ, ◌+◌, ◌<◌, ◌≤◌, ◌==◌, true, List, [], ◌∷◌, ◌++◌, length, get_or, map, inl, inr, refl, sym, ap, ◌∙◌, subst, arith, eqb-true}
use Rattle.std.proofs.lemmas.List.{length-map}
use Rattle.std.proofs.lemmas.List.Elements.{All-same, All-append, All-weaker, All-map, filter_passes}
use Rattle.std.specs.List.{All}
use Rattle.source_model.specs.declared.Given.{Given}
use Rattle.source_model.specs.declared.Kind.{Kind}
use Rattle.source_model.specs.declared.Static.{Static}
use Rattle.source_model.specs.Circuits.{OutcomesOf}
use Rattle.source_model.specs.Statics.{AreOutcomesOf, kinds_of}
use Rattle.board_core.specs.Position.{Position, IsLegal}
use Rattle.board_core.specs.declared.Entry.{Entry}
use Rattle.board_core.specs.declared.Noted.{Noted}
use Rattle.patch_layout.specs.Grid.{Grid, HasStore}
use Rattle.grid_lock.specs.Views.{entries_by, newcomer}
use Rattle.grid_lock.specs.Passes.{Known, NamedGrid, IsCalm, known}
use Rattle.router_work.specs.Passing.{IsRouted, IsStepOf, Passed}
use Rattle.router_work.specs.Routes.{IsByWorker}
use Rattle.router_work.specs.Routing.{HasFactory}
use Rattle.router_work.specs.declared.worker.Worker.{Worker}
use Rattle.router_work.specs.declared.worker.Worker.TheVariants.{Route, Make}
use Rattle.router_work.specs.inside.Workers.{AreWorked, HasSplit, HireMakers, IsBack, IsFirst, IsHired, IsNew, Worked, pass_of}

-- a pass's own entries have its number
pub own_number : (q : Known) → IsCalm q → All (λ (e : Noted). e.by ≡ q.view.number) q.view.mine
own_number q calm =
    let n = q.view.number in
    All-same (λ (e : Noted). e.by ≡ n) q.view.mine (entries_by n q.view.seen) (sym calm.own)
    (All-weaker (λ (e : Noted). (e.by == n) ≡ true) (λ (e : Noted). e.by ≡ n) (λ e t. eqb-true e.by n t) (entries_by n q.view.seen) (filter_passes (λ (e : Noted). e.by == n) q.view.seen))

-- what a pass that was new made, with its number
module _ (Makes : Entry → Type 0) (g : NamedGrid) (a c : ℕ) (p q : Known) (new : IsNew g a c p) (did : Passed Makes p q) where
  pub only_added : q.view.mine ≡ did.added
  only_added = did.mine ∙ ap (λ (l : List Noted). l ++ did.added) new.empty

  pub numbers : All (λ (e : Noted). e.by ≡ p.view.number) did.added
  numbers = All-same (λ (e : Noted). e.by ≡ p.view.number) did.added q.view.mine (sym only_added)
      (subst (λ (n : ℕ). All (λ (e : Noted). e.by ≡ n) q.view.mine) did.same.2 (own_number q did.calm))

module _ {G : Type 0} where
  pub worked_back : (g : NamedGrid) (given : List Given) (k : ℕ) (w v : Worker G) → IsHired g given k w → Worked w v → IsBack g given k (pass_of v)
  worked_back g given k (Route r) (Route s) hired did = record {
    of = (did.same.0 ∙ hired.1.of.0, did.same.1 ∙ hired.1.of.1);
    mine = All-same (IsByWorker given k) s.pass.view.mine did.added (only_added (IsRouted r.given) g 0 k r.pass s.pass hired.1 did)
        (λ i d l. let by = numbers (IsRouted r.given) g 0 k r.pass s.pass hired.1 did i d l in
        let low = hired.1.above in let high = hired.1.most in
        inl (omega arith, omega arith, subst (λ (z : List Given). IsRouted z (get_or did.added i d).entry) hired.0 (did.makes i d l)));
  }
  worked_back g given k (Route r) (Make n) hired did = absurd did
  worked_back g given k (Make m) (Route s) hired did = absurd did
  worked_back g given k (Make m) (Make n) hired did = record {
    of = (did.same.0 ∙ hired.of.0, did.same.1 ∙ hired.of.1);
    mine = All-same (IsByWorker given k) n.pass.view.mine did.added (only_added (IsStepOf m.factory) g k (k + 16) m.pass n.pass hired did)
        (λ i d l. let by = numbers (IsStepOf m.factory) g k (k + 16) m.pass n.pass hired did i d l in
        let low = hired.above in let high = hired.most in
        inr (omega arith, omega arith, (m.factory, did.makes i d l)));
  }

  pub all_back : (g : NamedGrid) (given : List Given) (k : ℕ) (ws vs : List (Worker G)) → All (IsHired g given k) ws → AreWorked ws vs → All (IsBack g given k) (map pass_of vs)
  all_back g given k ws vs hired did =
      All-map (IsBack g given k) pass_of vs
      (λ i d l. worked_back g given k (get_or ws i d) (get_or vs i d) (hired i d (let s = did.same in omega arith)) (did.each i d (let s = did.same in omega arith)))

  -- the makers after the routers
  pub all_hired : (g : NamedGrid) (given : List Given) (k : ℕ) (before after : List (Worker G)) → All (IsHired g given k) before → length before ≡ k → HireMakers g before after → All (IsHired g given k) after
  all_hired g given k before after routers count makers =
      All-same (IsHired g given k) after (before ++ makers.0) makers.1
      (All-append (IsHired g given k) before makers.0 routers (subst (λ (n : ℕ). All (IsHired g given n) makers.0) count (makers.2 given)))

  pub passes_back : (g : NamedGrid) (given : List Given) (k : ℕ) (ws : List (Worker G)) (ps : List Known) → All (IsHired g given k) ws → ((ended : List (Worker G)) × AreWorked ws ended × (ps ≡ map pass_of ended)) → All (IsBack g given k) ps
  passes_back g given k ws ps hired t = All-same (IsBack g given k) ps (map pass_of t.0) t.2 (all_back g given k ws t.0 hired t.1)

  pub passes_count : (ws : List (Worker G)) (ps : List Known) → ((ended : List (Worker G)) × AreWorked ws ended × (ps ≡ map pass_of ended)) → length ps ≡ length ws
  passes_count ws ps t = ap length t.2 ∙ (length-map t.0 pass_of ∙ t.1.same)

-- two rows of splits are one
pub split_on : (p q r : Known) (a b n : ℕ) → HasSplit p a q → HasSplit q b r → n ≡ a + b → HasSplit p n r
split_on p q r a b n x y is =
    y ∙ (ap (λ (z : Known). known z.grid (record z.view { made = z.view.made + b })) x
    ∙ ap (λ (m : ℕ). known p.grid (record p.view { made = m })) (let e : p.view.made + a + b ≡ p.view.made + n = omega arith in e))

-- pass 0 after some splits
pub first_after : (g : NamedGrid) (p q : Known) (a n m : ℕ) → IsFirst g a p → HasSplit p n q → m ≡ a + n → IsFirst g m q
first_after g p q a n m is split count =
    let e : p.view.made + n ≡ m = let t = is.2 in omega arith in
    subst (IsFirst g m) (sym split) (is.0, is.1, e)

-- the next pass is new
pub new_pass : (g : NamedGrid) (m b k n : ℕ) (p q r : Known) → IsFirst g m p → HasSplit p n q → r ≡ known q.grid (newcomer q.view) → b ≤ m + n → m + n < k → IsNew g b k r
new_pass g m b k n p q r first split is low high =
    let now : IsFirst g (m + n) q = first_after g p q m n (m + n) first split refl in
    let number : r.view.number ≡ q.view.made + 1 = ap (λ (x : Known). x.view.number) is in
    let made : q.view.made ≡ m + n = now.2 in
    record {
      of = (ap (λ (x : Known). x.grid) is ∙ now.0.0, ap (λ (x : Known). x.view.opened) is ∙ now.0.1);
      above = omega arith;
      most = omega arith;
      empty = ap (λ (x : Known). x.view.mine) is;
    }

-- the layout's factories are those of the grid's board
pub factories_fit : (g : NamedGrid) (x : Grid) (fs : List ℕ) → x ≡ g.opened.job.grid → All (λ (f : ℕ). (s : ℕ) × HasStore x f s) fs → All (HasFactory g) fs
factories_fit g x fs same each i d l = subst (λ (z : Grid). (s : ℕ) × HasStore z (get_or fs i d) s) same (each i d l)

-- ---- outcomes
as_many : (ks : List Kind) (gs : List Given) → OutcomesOf ks gs → length gs ≡ length ks
as_many [] [] h = refl
as_many [] (g ∷ gs) h = absurd h
as_many (k ∷ ks) [] h = absurd h
as_many (k ∷ ks) (g ∷ gs) h = let r = as_many ks gs h.1 in omega arith

pub few_outcomes : (b : Position) (gs : List Given) → IsLegal b → AreOutcomesOf gs b.job.products → length gs ≤ 16384
few_outcomes b gs legal of =
    let few = legal.limits.few_products in
    omega (arith, as_many (kinds_of b.job.products) gs of, length-map b.job.products (λ (s : Static). s.kind))
