-- A joined list of free cells is a region: distinct, joined inside, and on every side.
use Rattle.std.proofs.Common.{◌≡◌, ℕ, zero, suc, ◌<◌, ◌⊎◌, inl, inr, length, List, [], ◌∷◌, ◌++◌, refl, sym, subst, arith, Contains, All, length-append}
use Rattle.std.specs.List.Sorted.{IsPermutation}
use Rattle.std.proofs.lemmas.Option.{slice_get_within}
use Rattle.std.proofs.lemmas.List.Elements.{All-append, All-contains, All-cons, All-nil, Contains-append_left, Contains-append_right, Contains-append_cases}
use Rattle.std.proofs.lemmas.List.Sorted.{All-permutation, Contains-permutation, length_permutation, IsPermutation-sym}
use Rattle.patch_layout.specs.declared.layout.Side.{Side}
use Rattle.patch_layout.specs.declared.layout.Site.TheVariants as site
use Rattle.patch_layout.specs.Grid.{Grid, IsAncilla, Leads, Joins}
use Rattle.patch_layout.specs.Region.{OnSide, Touches}
use Rattle.patch_layout.specs.Joined.{Joining, Adds, Grown}
use Rattle.patch_layout.proofs.Fits.{joins_on, joins_back}
use Rattle.region_plan.proofs.Least.{Distinct, adds_distinct, leads_all, leads_to}

pub record Region (g : Grid) (Free : ℕ → Type 0) (have : List ℕ) : Type 0 where
  pub some : 0 < length have
  pub free : All Free have
  pub distinct : Distinct have
  pub joined : (a b : ℕ) → Contains have a → Contains have b → Joins g (Contains have) a b

pub in_head : (c : ℕ) (cs : List ℕ) → Contains (c ∷ cs) c
in_head c cs = (0, omega arith, refl)

pub in_tail : (c : ℕ) (cs : List ℕ) (x : ℕ) → Contains cs x → Contains (c ∷ cs) x
in_tail c cs x (k, b, e) = (suc k, omega arith, e)

pub in_cases : (c : ℕ) (cs : List ℕ) (x : ℕ) → Contains (c ∷ cs) x → (c ≡ x) ⊎ Contains cs x
in_cases c cs x (zero, b, e) = inl e
in_cases c cs x (suc k, b, e) = inr (k, omega arith, e)

-- a walk among fewer cells is one among more
pub leads_wider : (g : Grid) (P Q T : ℕ → Type 0) (cs : List ℕ) (a : ℕ) → ((x : ℕ) → P x → Q x) → Leads g P T a cs → Leads g Q T a cs
leads_wider g P Q T [] a f t = t
leads_wider g P Q T (c ∷ cs) a f (adj, p, rest) = (adj, f c p, leads_wider g P Q T cs c f rest)

-- along a walk to each of its cells
pub leads_inside : (g : Grid) (P T Q : ℕ → Type 0) (cs : List ℕ) (a x : ℕ) → Leads g P T a cs → Q a → ((y : ℕ) → Contains cs y → Q y) → Contains cs x → Joins g Q a x
leads_inside g P T Q [] a x l q all (k, b, e) = absurd (omega arith)
leads_inside g P T Q (c ∷ cs) a x (adj, p, rest) q all has =
    let here : Q c = all c (in_head c cs) in
    let step : Joins g Q a c = (c ∷ [], q, (adj, here, refl)) in
    elim (in_cases c cs x has) [
      | inl e ↦ let S : ℕ → Type 0 = λ y. Joins g Q a y in subst S e step
      | inr more ↦ joins_on g Q a c x step (leads_inside g P T Q cs c x rest here (λ y h. all y (in_tail c cs y h)) more)
    ]

-- the last cell of a walk
pub leads_end : (g : Grid) (P T : ℕ → Type 0) (cs : List ℕ) (a : ℕ) → Leads g P T a cs → (d : ℕ) × T d × ((a ≡ d) ⊎ Contains cs d)
leads_end g P T [] a t = (a, t, inl refl)
leads_end g P T (c ∷ cs) a (adj, p, rest) =
    let (d, t, at') = leads_end g P T cs c rest in
    (d, t, inr (elim at' [ inl e ↦ (let S : ℕ → Type 0 = λ y. Contains (c ∷ cs) y in subst S e (in_head c cs)) | inr more ↦ in_tail c cs d more ]))

pub region_more : (g : Grid) (Free T : ℕ → Type 0) (have added : List ℕ) → ((x : ℕ) → Free x → IsAncilla g x) → Region g Free have → Adds g Free T have added
    → Region g Free (have ++ added) × ((d : ℕ) × Contains (have ++ added) d × T d)
region_more g Free T have added anc r adds =
    let from = adds.0.0 in
    let has = adds.0.1 in
    let leads = adds.0.2 in
    let all : List ℕ = have ++ added in
    let free : All Free all = All-append Free have added r.free (leads_all g Free T from added leads) in
    let from-in : Contains all from = Contains-append_left have added from has in
    let within = λ (x : ℕ) (h : Contains all x). slice_get_within g.sites x site.Ancilla (anc x (All-contains Free all x free h)) in
    let out = λ (x : ℕ) (h : Contains all x).
    let way : Joins g (Contains all) from x = elim (Contains-append_cases have added x h) [
      | inl old ↦
          let (cs, p, l) = r.joined from x has old in
          (cs, from-in, leads_wider g (Contains have) (Contains all) (λ y. y ≡ x) cs from (λ y i. Contains-append_left have added y i) l)
      | inr new ↦ leads_inside g Free T (Contains all) added from x leads from-in (λ y i. Contains-append_right have added y i) new
    ] in
    way in (
      record {
        some = omega (arith, r.some, length-append have added);
        free = free;
        distinct = adds_distinct g Free T have added adds r.distinct;
        joined = λ a b ha hb. joins_on g (Contains all) a from b (joins_back g (Contains all) within from a (out a ha)) (out b hb);
      },
      let (d, t, at') = leads_end g Free T added from leads in
          (d, elim at' [ inl e ↦ (let S : ℕ → Type 0 = λ y. Contains all y in subst S e from-in) | inr more ↦ Contains-append_right have added d more ], t),
    )

pub only : (c x : ℕ) → Contains (c ∷ []) x → c ≡ x
only c x has = elim (in_cases c [] x has) [ inl e ↦ e | inr none ↦ absurd (omega (arith, none.1)) ]

-- one cell is a region
pub region_one : (g : Grid) (Free : ℕ → Type 0) (c : ℕ) → Free c → Region g Free (c ∷ [])
region_one g Free c f = record {
  some = omega arith;
  free = All-cons Free c [] f (All-nil Free);
  distinct = λ i j d lt b. absurd (omega arith);
  joined = λ a b ha hb. ([], ha, let ea : c ≡ a = only c a ha in let eb : c ≡ b = only c b hb in cc);
}

-- where a growth goes through, the region is on every side
pub grown_region : (g : Grid) (Free : ℕ → Type 0) (have : List ℕ) (sides : List Side) (cells : List ℕ) → ((x : ℕ) → Free x → IsAncilla g x) → Region g Free have → Grown g Free have sides cells
    → (whole : List ℕ) × Region g Free whole × IsPermutation whole cells × ((c : ℕ) → Contains have c → Contains whole c) × All (Touches g whole) sides
grown_region g Free have [] cells anc r grown = (have, r, grown, λ c h. h, All-nil (Touches g have))
grown_region g Free have (s ∷ ss) cells anc r (added, adds, rest) =
    let (r', touch) = region_more g Free (OnSide g s) have added anc r adds in
    let (whole, r'', perm, holds, all) = grown_region g Free (have ++ added) ss cells anc r' rest in (
      whole,
      r'',
      perm,
      λ c h. holds c (Contains-append_left have added c h),
      All-cons (Touches g whole) s ss (touch.0, holds touch.0 touch.1, touch.2) all,
    )

-- in another order it stays a region
pub region_permuted : (g : Grid) (Free : ℕ → Type 0) (whole cells : List ℕ) → IsPermutation whole cells → Distinct cells → Region g Free whole → Region g Free cells
region_permuted g Free whole cells perm distinct r =
    record {
      some = omega (arith, r.some, length_permutation whole cells perm);
      free = All-permutation Free whole cells perm r.free;
      distinct = distinct;
      joined = λ a b ha hb.
          let there = λ (x : ℕ) (h : Contains cells x). Contains-permutation cells whole x (IsPermutation-sym whole cells perm) h in
          let (cs, p, l) = r.joined a b (there a ha) (there b hb) in
          (cs, ha, leads_wider g (Contains whole) (Contains cells) (λ y. y ≡ b) cs a (λ x h. Contains-permutation whole cells x perm h) l);
    }

-- a side that no walk reaches from a cell is touched by no region with that cell
pub no_region : (g : Grid) (Free : ℕ → Type 0) (first : ℕ) (s : Side) → ((others : List ℕ) → Joining g Free (OnSide g s) (first ∷ []) others → ⊥)
    → (cells : List ℕ) → All Free cells → ((a b : ℕ) → Contains cells a → Contains cells b → Joins g (Contains cells) a b) → Contains cells first → Touches g cells s → ⊥
no_region g Free first s none cells free joined has (d, has-d, on) =
    let (cs, p, l) = joined first d has has-d in
    let wider = leads_wider g (Contains cells) Free (λ y. y ≡ d) cs first (λ x h. All-contains Free cells x free h) l in
    none cs (first, in_head first [], leads_to g Free (λ y. y ≡ d) (OnSide g s) cs first (λ y e. let P : ℕ → Type 0 = λ z. OnSide g s z in subst P (sym e) on) wider)
