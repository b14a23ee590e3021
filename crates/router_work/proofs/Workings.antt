-- What a router's work adds up to.
use Rattle.std.proofs.Common.{◌≡◌, ◌⊎◌, inl, inr, ℕ, ◌+◌, ◌*◌, true, not, List, [], ◌∷◌, ◌++◌, length, refl, sym, ap, ◌∙◌, subst, arith, eq-eqb, ◌==◌}
use Rattle.std.proofs.lemmas.Bool.{true≢false}
use Rattle.std.proofs.lemmas.List.Elements.{All-contains, All-contains_itself, All-filter, Contains-push_cases, filter_passes}
use Rattle.std.specs.List.{Contains}
use Rattle.number_share.specs.Lists.{without}
use Rattle.number_share.specs.Hands.{Owner, putting}
use Rattle.grid_lock.specs.Passes.{Known, IsCalm}
use Rattle.router_work.specs.Passing.{IsRouted, Passed}
use Rattle.router_work.specs.Routing.{Routing}
use Rattle.router_work.specs.Tries.{IsBegun}
use Rattle.router_work.specs.Ends.{LosesNone, RouterEnds, TurnedMore}
use Rattle.router_work.specs.declared.router.RouterEnd.{RouterEnd}
use Rattle.router_work.specs.declared.router.RouterEnd.TheVariants as router
use Rattle.router_work.specs.inside.Steps.{Goes, HoldsOn}
use Rattle.router_work.proofs.Passings.{begun_on, passed_none}
use Rattle.router_work.proofs.Tryings.{rose_on}

-- ---- numbers that are put back
pub put_gone : (n : ℕ) (xs : List ℕ) → Contains (without n xs) n → ⊥
put_gone n xs inside =
    let passes : not (n == n) ≡ true = All-contains (λ (m : ℕ). not (m == n) ≡ true) (without n xs) n (filter_passes (λ (m : ℕ). not (m == n)) xs) inside in
    true≢false (sym passes ∙ ap not (eq-eqb n n refl))

put_kept : (n m : ℕ) (xs : List ℕ) → Contains (without n xs) m → Contains xs m
put_kept n m xs inside = All-contains (Contains xs) (without n xs) m (All-filter (λ (k : ℕ). not (k == n)) (Contains xs) xs (All-contains_itself xs)) inside

-- ---- only the hand changed
pub goes_in_hand : (r s : Routing) → IsCalm r.pass → s ≡ record r { hand = s.hand } → Goes r s
goes_in_hand r s calm is =
    let stops : s.stops ≡ r.stops = ap (λ (x : Routing). x.stops) is in
    record {
      same = record { grid = ap (λ (x : Routing). x.grid) is; share = ap (λ (x : Routing). x.share) is; given = ap (λ (x : Routing). x.given) is };
      passed = subst (λ (p : Known). Passed (IsRouted r.given) r.pass p) (sym (ap (λ (x : Routing). x.pass) is)) (passed_none (IsRouted r.given) r.pass calm);
      stops = omega arith;
    }

-- ---- one more number was taken, and carried out or put back
pub loses_none_on : (r s t u : Routing) (n : ℕ) → LosesNone r s → t.hand.held ≡ s.hand.held ++ n ∷ [] → t.pass ≡ s.pass → Goes t u → HoldsOn t.hand n u.hand → (Contains u.hand.held n → IsBegun u.pass n) → LosesNone r u
loses_none_on r s t u n none taken same goes held begun m inside = go held
  where
    before : Contains s.hand.held m → Contains r.hand.held m ⊎ IsBegun u.pass m
    before there = elim (none m there) [
      | inl x ↦ inl x
      | inr x ↦ inr (begun_on t.pass u.pass m goes.passed.seen (subst (λ (p : Known). IsBegun p m) (sym same) x))
    ]

    cases : Contains t.hand.held m → Contains s.hand.held m ⊎ (n ≡ m)
    cases there = Contains-push_cases s.hand.held n m (subst (λ (l : List ℕ). Contains l m) taken there)

    kept : Contains s.hand.held m ⊎ (n ≡ m) → Contains r.hand.held m ⊎ IsBegun u.pass m
    kept (inl there) = before there
    kept (inr is) = inr (subst (IsBegun u.pass) is (begun (subst (Contains u.hand.held) (sym is) inside)))

    gone : u.hand ≡ putting t.hand n → Contains s.hand.held m ⊎ (n ≡ m) → Contains r.hand.held m ⊎ IsBegun u.pass m
    gone put (inl there) = before there
    gone put (inr is) =
        let out : Contains (without n t.hand.held) n = subst (λ (h : Owner). Contains h.held n) put (subst (Contains u.hand.held) (sym is) inside) in
        absurd (put_gone n t.hand.held out)

    go : HoldsOn t.hand n u.hand → Contains r.hand.held m ⊎ IsBegun u.pass m
    go (inl all) = kept (cases (subst (λ (l : List ℕ). Contains l m) (sym all) inside))
    go (inr put) = gone put (cases (put_kept n m t.hand.held (subst (λ (h : Owner). Contains h.held m) put inside)))

pub loses_none_yet : (r s t : Routing) → LosesNone r s → t.hand.held ≡ s.hand.held → t.pass ≡ s.pass → LosesNone r t
loses_none_yet r s t none held same m inside = elim (none m (subst (λ (l : List ℕ). Contains l m) held inside)) [
  | inl x ↦ inl x
  | inr x ↦ inr (subst (λ (p : Known). IsBegun p m) (sym same) x)
]

-- ---- the board answered once more
pub turned_on : (r s t u : Routing) (n : ℕ) → TurnedMore n r.pass s.pass → t.pass ≡ s.pass → TurnedMore 1 t.pass u.pass → TurnedMore (n + 1) r.pass u.pass
turned_on r s t u n before same once =
    let e : t.pass.view.turns ≡ s.pass.view.turns = ap (λ (p : Known). p.view.turns) same in
    omega arith

-- ---- the end of a try ends the work
pub router_ends_on : (r s t : Routing) (e : RouterEnd) → Goes r s → length s.given ≡ length r.given → RouterEnds e s t → RouterEnds e r t
router_ends_on r s t router.Stopped x same e = rose_on r.stops s.stops t.stops x.stops e
router_ends_on r s t router.NoNumber x same e = e
router_ends_on r s t router.Tries x same e = let m = x.passed.turns in let given : 64 * length s.given ≡ 64 * length r.given = ap (λ (n : ℕ). 64 * n) same in omega arith
router_ends_on r s t router.Busy x same e = let m = x.passed.met in omega arith
router_ends_on r s t router.Memory x same e = tt
