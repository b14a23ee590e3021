-- The workers of a live run before and after their work.
use Rattle.std.proofs.Common.{◌≡◌, ℕ, ◌+◌, ◌≤◌, true, List, [], ◌∷◌, ◌++◌, Option, not, length, get_or, map, inl, inr, refl, sym, ap, ◌∙◌, subst, arith}
use Rattle.std.proofs.lemmas.List.{length-map, length-append}
use Rattle.std.proofs.lemmas.List.Elements.{All-same, All-append, All-cons, All-nil, All-weaker, All-map, filter_passes}
use Rattle.std.proofs.lemmas.List.Filters.{length-filter_both}
use Rattle.std.proofs.lemmas.List.FromFn.{length-range_with_len}
use Rattle.std.specs.List.{All, range_with_len}
use Rattle.source_model.specs.declared.Kind.{Kind}
use Rattle.board_core.specs.declared.Noted.{Noted}
use Rattle.patch_layout.specs.Grid.{Grid, HasStore}
use Rattle.grid_lock.specs.Passes.{Known, NamedGrid, IsCalm, IsPassOf}
use Rattle.router_work.specs.Passing.{IsStepOf}
use Rattle.router_work.specs.Routing.{HasFactory}
use Rattle.router_work.specs.inside.Workers.{HasSplit}
use Rattle.router_work.proofs.Crews.{numbers, only_added, own_number}
use Rattle.arrival_line.specs.declared.arrival.Arrival.{Arrival}
use Rattle.arrival_line.specs.Strays.{Delivers, Serves}
use Rattle.live_readout.specs.Entries.{IsTaking}
use Rattle.live_readout.specs.inside.Entries.{delivered_by}
use Rattle.live_readout.specs.Routes.{IsByLiveWorker, factories_of, has_factory}
use Rattle.live_readout.specs.declared.worker.Worker.{Worker}
use Rattle.live_readout.specs.declared.worker.Worker.TheVariants.{Route, Make}
use Rattle.live_readout.specs.inside.Workers.{AreWorked, Handing, HireMakers, IsAnyHanding, IsBack, IsHired, IsLast, Worked, pass_of}
use Rattle.live_readout.proofs.Handings.{handed}
use Rattle.live_readout.proofs.Lists.{has_store}

module _ {G : Type 0} (Fits : Arrival → Type 0) (g : NamedGrid) (k m : ℕ) where
  worked_back : (w v : Worker G) → IsHired g k m w → Worked w v → IsBack g (IsByLiveWorker Fits k m) (pass_of v)
  worked_back (Route r) (Route s) hired did = record {
    of = (did.same.0 ∙ hired.of.0, did.same.1 ∙ hired.of.1);
    mine = All-same (IsByLiveWorker Fits k m) s.view.mine did.added (only_added IsTaking g 0 k r s hired did)
        (λ i d l. let by = numbers IsTaking g 0 k r s hired did i d l in
        let low = hired.above in let high = hired.most in
        inl (omega arith, omega arith, did.makes i d l));
  }
  worked_back (Route r) (Make n) hired did = absurd did
  worked_back (Make n) (Route s) hired did = absurd did
  worked_back (Make n) (Make o) hired did = record {
    of = (did.same.0 ∙ hired.of.0, did.same.1 ∙ hired.of.1);
    mine = All-same (IsByLiveWorker Fits k m) o.pass.view.mine did.added (only_added (IsStepOf n.factory) g k (k + m) n.pass o.pass hired did)
        (λ i d l. let by = numbers (IsStepOf n.factory) g k (k + m) n.pass o.pass hired did i d l in
        let low = hired.above in let high = hired.most in
        inr (inl (omega arith, omega arith, (n.factory, did.makes i d l))));
  }

  all_back : (ws vs : List (Worker G)) → All (IsHired g k m) ws → AreWorked ws vs → All (IsBack g (IsByLiveWorker Fits k m)) (map pass_of vs)
  all_back ws vs hired did =
      All-map (IsBack g (IsByLiveWorker Fits k m)) pass_of vs
      (λ i d l. worked_back (get_or ws i d) (get_or vs i d) (hired i d (let s = did.same in omega arith)) (did.each i d (let s = did.same in omega arith)))

module _ {G : Type 0} (g : NamedGrid) (k m : ℕ) where
  -- the makers after the routers
  pub all_hired : (before after : List (Worker G)) → All (IsHired g k m) before → length before ≡ k → HireMakers g m before after → All (IsHired g k m) after
  all_hired before after routers count makers =
      All-same (IsHired g k m) after (before ++ makers.0) makers.1
      (All-append (IsHired g k m) before makers.0 routers (subst (λ (n : ℕ). All (IsHired g n m) makers.0) count makers.2))

-- how many passes pass 0 has split off
pub made_after : (p q r : Known) (k m : ℕ) → p.view.made ≡ 0 → HasSplit p k q → HasSplit q m r → r.view.made ≡ k + m
made_after p q r k m none x y =
    let a : q.view.made ≡ p.view.made + k = ap (λ (z : Known). z.view.made) x in
    let b : r.view.made ≡ q.view.made + m = ap (λ (z : Known). z.view.made) y in
    omega arith

-- ---- with the deliverer
module _ (g : NamedGrid) (wanted : List (Option Kind)) (all : List Arrival) (k m : ℕ) where
  last_back : (p q : Known) → p.view.number ≡ k + m + 1 → IsLast g wanted all p q → IsBack g (IsByLiveWorker (Serves wanted all) k m) q
  last_back p q number last =
      let d = last.delivers in
      let fits : All (Serves wanted all) (delivered_by q.view.mine) = All-same (Serves wanted all) (delivered_by q.view.mine) d.0 d.1 d.2 in
      let hands = handed (Serves wanted all) q.view.mine last.handing fits in
      record {
        of = last.of;
        mine = λ i e l. inr (inr (own_number q last.calm i e l ∙ (last.number ∙ number), hands i e l));
      }

-- the deliverer's pass after it was handed out
pub last_pass : (g : NamedGrid) (wanted : List (Option Kind)) (all : List Arrival) (p q : Known) (d e : Handing) → d.grid ≡ g → d.pass ≡ p → p.view.mine ≡ []
    → ◌≡◌ {A = NamedGrid × ℕ} (e.grid, e.pass.view.number) (d.grid, d.pass.view.number) → q ≡ e.pass → IsPassOf e.grid q → IsCalm q → All (λ (n : Noted). IsAnyHanding n.entry) q.view.mine
    → Delivers wanted all (delivered_by d.pass.view.mine) (delivered_by e.pass.view.mine) → IsLast g wanted all p q
last_pass g wanted all p q d e grid pass new key is of calm any del = record {
  of = subst (λ (z : NamedGrid). IsPassOf z q) (ap (λ (x : NamedGrid × ℕ). x.0) key ∙ grid) of;
  calm = calm;
  number = ap (λ (z : Known). z.view.number) is ∙ (ap (λ (x : NamedGrid × ℕ). x.1) key ∙ ap (λ (z : Known). z.view.number) pass);
  handing = any;
  delivers = subst (λ (m : List Arrival). Delivers wanted all m (delivered_by q.view.mine)) (ap (λ (z : Known). delivered_by z.view.mine) pass ∙ ap delivered_by new)
      (subst (λ (z : Known). Delivers wanted all (delivered_by d.pass.view.mine) (delivered_by z.view.mine)) (sym is) del);
}

module _ {G : Type 0} (g : NamedGrid) (wanted : List (Option Kind)) (all : List Arrival) (k m : ℕ) where
  -- all passes: those of the routers and makers, and the deliverer's
  pub all_passes : (ws : List (Worker G)) (p : Known) (ps : List Known) → All (IsHired g k m) ws → p.view.number ≡ k + m + 1
      → ((ended : List (Worker G)) × (last : Known) × AreWorked ws ended × IsLast g wanted all p last × (ps ≡ map pass_of ended ++ last ∷ []))
      → All (IsBack g (IsByLiveWorker (Serves wanted all) k m)) ps
  all_passes ws p ps hired number t =
      let Back = IsBack g (IsByLiveWorker (Serves wanted all) k m) in
      All-same Back ps (map pass_of t.0 ++ t.1 ∷ []) t.4
      (All-append Back (map pass_of t.0) (t.1 ∷ []) (all_back (Serves wanted all) g k m ws t.0 hired t.2) (All-cons Back t.1 [] (last_back g wanted all k m p t.1 number t.3) (All-nil Back)))

  pub passes_count : (ws : List (Worker G)) (p : Known) (ps : List Known)
      → ((ended : List (Worker G)) × (last : Known) × AreWorked ws ended × IsLast g wanted all p last × (ps ≡ map pass_of ended ++ last ∷ []))
      → length ps ≡ length ws + 1
  passes_count ws p ps t = ap length t.4 ∙ (length-append (map pass_of t.0) (t.1 ∷ []) ∙ ap (λ n. n + 1) (length-map t.0 pass_of ∙ t.2.same))

-- ---- factories
-- the layout's factories are those of the grid's board
pub factories_fit : (g : NamedGrid) (x : Grid) (fs : List ℕ) → x ≡ g.opened.job.grid → fs ≡ factories_of x → All (HasFactory g) fs
factories_fit g x fs same is =
    All-same (HasFactory g) fs (factories_of x) is
    (All-weaker (λ (f : ℕ). has_factory x f ≡ true) (HasFactory g) (λ f t. subst (λ (z : Grid). (s : ℕ) × HasStore z f s) same (has_store x f t)) (factories_of x) (filter_passes (has_factory x) (range_with_len 0 16)))

pub few_factories : (x : Grid) (fs : List ℕ) → fs ≡ factories_of x → length fs ≤ 16
few_factories x fs is =
    let p = has_factory x in
    let both = length-filter_both p (λ (f : ℕ). not (p f)) (λ f. refl) (range_with_len 0 16) in
    let sixteen = length-range_with_len 0 16 in
    let count : length fs ≡ length (factories_of x) = ap length is in
    omega (arith, both, sixteen, count)
