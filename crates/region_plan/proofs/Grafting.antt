-- From the region back along a walk to the side.
use Rattle.std.proofs.Common.{◌≡◌, ℕ, ◌+◌, ◌<◌, ◌≤◌, ◌⊎◌, inl, inr, Bool, length, slice_get, Option, Some, None, List, [], ◌∷◌, ◌++◌, refl, sym, subst, arith, Contains, All, length-append, append_assoc, ◌↔◌}
use Rattle.std.proofs.lemmas.Option.{slice_get_within}
use Rattle.std.proofs.lemmas.List.{length-map}
use Rattle.std.proofs.lemmas.List.Elements.{All-contains}
use Rattle.patch_layout.specs.declared.walk.Reached.{Reached}
use Rattle.patch_layout.specs.declared.layout.Side.{Side}
use Rattle.patch_layout.specs.declared.layout.Site.TheVariants as site
use Rattle.patch_layout.specs.Grid.{Grid, Adjacent, Leads}
use Rattle.patch_layout.specs.Region.{OnSide}
use Rattle.patch_layout.specs.Spread.{InQueue, NoneBefore, OneAt}
use Rattle.patch_layout.specs.Joined.{Joining}
use Rattle.patch_layout.proofs.Places.{same_entry, get_cases, get_added, get_from_Contains, Contains_from_get, get_map, get_mapped}
use Rattle.patch_layout.proofs.Laws.{law_neighbours}
use Rattle.patch_layout.proofs.Fits.{leads_on}
use Rattle.region_plan.specs.Free.{Free}
use Rattle.region_plan.specs.inside.Walk.{FreeOnes, Sought, MetAt, Meets, Reaches}
use Rattle.region_plan.specs.inside.Kept.{KeptFrom, HasWalk, Suits}
use Rattle.region_plan.specs.inside.Follow.{Found, Leading, Follows}
use Rattle.region_plan.specs.declared.kept.Walk.{Walk}
use Rattle.region_plan.specs.declared.walk.Met.{Met}
use Rattle.region_plan.specs.inside.Tree.{Growth, cells_in, Rooted, Grafted, Pushed}
use Rattle.region_plan.proofs.Least.{leads_to}
use Rattle.region_plan.proofs.Rooting.{cells_more, rooted_more}
use Rattle.region_plan.proofs.Reaching.{reaches_of, reaches_before, least_reached, none_reached}

-- a walk may be taken backwards: from its last cell to where it began, in as many steps
pub turned : (g : Grid) (P S T : ℕ → Type 0) → ((x : ℕ) → P x → x < length g.sites) → (cs : List ℕ) (a : ℕ) → P a → T a → Leads g P S a cs
    → (z : ℕ) × S z × P z × (es : List ℕ) × (length es ≡ length cs) × Leads g P T z es
turned g P S T within [] a p t s = (a, s, p, [], refl, t)
turned g P S T within (c ∷ cs) a p t (adj, q, rest) =
    let (z, s, pz, es, len, back) = turned g P S (λ x. x ≡ c) within cs c q refl rest in
    (z, s, pz, es ++ a ∷ [], omega (arith, length-append es (a ∷ [])), leads_on g P T es z c (a ∷ []) back (law_neighbours g a c (within a p) adj, p, t))

pub free_within : (g : Grid) (held : List (Option ℕ)) (x : ℕ) → Free g held x → x < length g.sites
free_within g held x free = slice_get_within g.sites x site.Ancilla free.0

-- a walk from the region to the side is one from the side to the region
pub joining_back : (g : Grid) (held pair : List (Option ℕ)) (side : Side) (tree : List Reached) (starts others : List ℕ) → FreeOnes g held pair starts → ((c : ℕ) → Contains pair (Some c) ↔ OnSide g side c)
    → All (Free g held) (cells_in tree) → Joining g (Free g held) (OnSide g side) (cells_in tree) others
    → (es : List ℕ) × (length es ≡ length others) × Joining g (Free g held) (InQueue tree) starts es
joining_back g held pair side tree starts others ones on free (from, has, leads) =
    let (k, is) = get_from_Contains (cells_in tree) from has in
    let (r, is', cell) = get_map (λ r. r.cell) tree k from is in
    let inside : InQueue tree from = (k, r, is', cell) in
    let (z, on-z, free-z, es, len, back) = turned g (Free g held) (OnSide g side) (InQueue tree) (free_within g held) others from (All-contains (Free g held) (cells_in tree) from free has) inside leads in
    (es, len, (z, ones.1 z free-z ((on z).1 on-z), back))

-- the cells that were joined so far lead from the region to an entry of the walk
pub record Grafting (g : Grid) (held : List (Option ℕ)) (tree queue : List Reached) (head : ℕ) (now : List Reached) (at' : Reached) (place : ℕ) : Type 0 where
  pub index : ℕ
  pub is : slice_get queue index ≡ Some at'
  pub low : index ≤ head
  pub added : List Reached
  pub now-is : now ≡ tree ++ added
  pub end : Reached
  pub end-is : slice_get queue head ≡ Some end
  pub leads : Leads g (Free g held) (λ c. c ≡ at'.cell) end.cell (cells_in added)
  pub steps : length added + at'.steps ≡ end.steps
  pub here : Reached
  pub here-is : slice_get now place ≡ Some here
  pub here-cell : here.cell ≡ at'.cell
  pub fresh : (k : ℕ) (r : Reached) → slice_get now k ≡ Some r → InQueue tree r.cell ⊎ ((j : ℕ) × (x : Reached) × (index ≤ j) × (slice_get queue j ≡ Some x) × (x.cell ≡ r.cell))
  pub rooted : (first : ℕ) → Rooted g (Free g held) first tree → Rooted g (Free g held) first now

append_nil : (xs : List Reached) → xs ≡ xs ++ []
append_nil [] = refl
append_nil (x ∷ xs) = let e = append_nil xs in grind arith

pub grafting_start : (g : Grid) (held : List (Option ℕ)) (tree queue : List Reached) (met : Met) (at' : Reached) → slice_get queue met.head ≡ Some at' → MetAt queue tree met
    → Grafting g held tree queue met.head tree at' met.place
grafting_start g held tree queue met at' is (r, x, is', x-is, cell) =
    let same : r ≡ at' = same_entry queue met.head r at' is' is in
    let P : Reached → Type 0 = λ y. x.cell ≡ y.cell in
    record {
      index = met.head;
      is = is;
      low = omega arith;
      added = [];
      now-is = append_nil tree;
      end = at';
      end-is = is;
      leads = refl;
      steps = omega arith;
      here = x;
      here-is = x-is;
      here-cell = subst P same cell;
      fresh = λ k y e. inl (k, y, e, refl);
      rooted = λ first rooted. rooted;
    }

-- the entries of the walk have free cells
entry_free : (g : Grid) (held pair : List (Option ℕ)) (starts : List ℕ) (queue : List Reached) (head : ℕ) → FreeOnes g held pair starts → Reaches g (Free g held) starts queue head
    → (k : ℕ) (r : Reached) → slice_get queue k ≡ Some r → Free g held r.cell
entry_free g held pair starts queue head ones s k r is = elim (s.came k r is) [
  | inl start ↦ (ones.0 r.cell start.2).0
  | inr f ↦ f.free
]

-- the entry that comes before is not in the region yet
pub grafting_new : (g : Grid) (held : List (Option ℕ)) (starts : List ℕ) (tree queue : List Reached) (head : ℕ) (now : List Reached) (at' y : Reached) (place : ℕ)
    → Reaches g (Free g held) starts queue head → NoneBefore (InQueue tree) queue head → Grafting g held tree queue head now at' place
    → slice_get queue at'.from ≡ Some y → 0 < at'.steps → InQueue now y.cell → ⊥
grafting_new g held starts tree queue head now at' y place s none t is more (k, r, at-k, cell) =
    elim (s.came t.index at' t.is) [
      | inl start ↦ omega (arith, start.0)
      | inr f ↦
          let earlier : at'.from < t.index = f.earlier in
          elim (t.fresh k r at-k) [
            | inl old ↦ let P : ℕ → Type 0 = λ x. InQueue tree x in none at'.from y (omega (arith, t.low)) is (subst P cell old)
            | inr (j, x, low, x-is, x-cell) ↦
                let same : j ≡ at'.from = s.once j at'.from x y x-is is (let e : x.cell ≡ y.cell = cc in e) in
                omega (arith, same)
          ]
    ]

pub grafting_within : (g : Grid) (held : List (Option ℕ)) (starts : List ℕ) (tree queue : List Reached) (head : ℕ) (now : List Reached) (at' : Reached) (place : ℕ)
    → Reaches g (Free g held) starts queue head → Grafting g held tree queue head now at' place → at'.from < length queue
grafting_within g held starts tree queue head now at' place s t =
    let w : t.index < length queue = slice_get_within queue t.index at' t.is in
    elim (s.came t.index at' t.is) [ inl start ↦ omega (arith, start.1) | inr f ↦ omega (arith, f.earlier) ]

-- one more cell is joined
pub grafting_more : (g : Grid) (held pair : List (Option ℕ)) (starts : List ℕ) (tree queue : List Reached) (head : ℕ) (now after : List Reached) (at' y : Reached) (place next : ℕ)
    → FreeOnes g held pair starts → Reaches g (Free g held) starts queue head → Grafting g held tree queue head now at' place
    → slice_get queue at'.from ≡ Some y → 0 < at'.steps → Pushed now y.cell place next after
    → Grafting g held tree queue head after y next × (y.steps < at'.steps)
grafting_more g held pair starts tree queue head now after at' y place next ones s t is more (base, base-is, next-is, after-is) =
    elim (s.came t.index at' t.is) [
      | inl start ↦ absurd (omega (arith, start.0))
      | inr f ↦
          let y-is : f.base ≡ y = same_entry queue at'.from f.base y f.is is in
          let A : Reached → Type 0 = λ x. Adjacent g x.cell at'.cell in
          let adj : Adjacent g y.cell at'.cell = subst A y-is f.adjacent in
          let S : Reached → Type 0 = λ x. at'.steps ≡ x.steps + 1 in
          let steps : at'.steps ≡ y.steps + 1 = subst S y-is f.steps in
          let free : Free g held y.cell = entry_free g held pair starts queue head ones s at'.from y is in
          let back : Adjacent g at'.cell y.cell = law_neighbours g y.cell at'.cell (free_within g held y.cell free) adj in
          let base-here : base ≡ t.here = same_entry now place base t.here base-is t.here-is in
          let B : Reached → Type 0 = λ x. x.cell ≡ at'.cell in
          let base-cell : base.cell ≡ at'.cell = subst B (sym base-here) t.here-cell in
          let new : Reached = record { cell = y.cell; from = place; steps = base.steps + 1 } in
          let C : ℕ → Type 0 = λ x. Adjacent g x y.cell in
          let L : List ℕ → Type 0 = λ cs. Leads g (Free g held) (λ c. c ≡ y.cell) t.end.cell cs in
          let P : List Reached → Type 0 = λ xs. Grafting g held tree queue head xs y next in
          let N : ℕ → Type 0 = λ x. Grafting g held tree queue head (now ++ new ∷ []) y x in (
            subst P (sym after-is) (subst N (sym next-is) (record {
              index = at'.from;
              is = is;
              low = omega (arith, f.earlier, t.low);
              added = t.added ++ new ∷ [];
              now-is = let e : now ≡ tree ++ t.added = t.now-is in rw (e, append_assoc) refl;
              end = t.end;
              end-is = t.end-is;
              leads = subst L (sym (cells_more t.added (new ∷ []))) (leads_on g (Free g held) (λ c. c ≡ y.cell) (cells_in t.added) t.end.cell at'.cell (y.cell ∷ []) t.leads (back, free, refl));
              steps = omega (arith, length-append t.added (new ∷ []), t.steps, steps);
              here = new;
              here-is = get_added now new;
              here-cell = refl;
              fresh = λ k r e. elim (get_cases now new k r e) [
                | inl old ↦ elim (t.fresh k r old) [
                  | inl was ↦ inl was
                  | inr (j, x, low, x-is, x-cell) ↦ inr (j, x, omega (arith, f.earlier), x-is, x-cell)
                ]
                | inr added ↦ let Q : Reached → Type 0 = λ x. y.cell ≡ x.cell in inr (at'.from, y, omega arith, is, subst Q added.1 refl)
              ];
              rooted = λ first rooted. rooted_more g (Free g held) first now base new (t.rooted first rooted) base-is refl (subst C (sym base-cell) back) free;
            })),
            omega (arith, steps),
          )
    ]

-- at the side the region was joined by the least number of cells
pub grafted : (g : Grid) (held pair : List (Option ℕ)) (side : Side) (starts : List ℕ) (tree queue : List Reached) (head : ℕ) (now : List Reached) (at' : Reached) (place : ℕ)
    → FreeOnes g held pair starts → Reaches g (Free g held) starts queue head → NoneBefore (InQueue tree) queue head → OneAt (InQueue tree) queue head
    → ((c : ℕ) → Contains pair (Some c) ↔ OnSide g side c) → All (Free g held) (cells_in tree)
    → Grafting g held tree queue head now at' place → at'.steps ≡ 0 → Grafted g (Free g held) (OnSide g side) tree now (Some place)
grafted g held pair side starts tree queue head now at' place ones s none (r, r-is, inside) on free t zero-steps =
    let on-side : OnSide g side at'.cell = elim (s.came t.index at' t.is) [
      | inl start ↦ (on at'.cell).0 (ones.0 at'.cell start.2).1
      | inr f ↦ absurd (omega (arith, f.steps))
    ] in
    let E : ℕ → Type 0 = λ x. OnSide g side x in
    let end-same : r ≡ t.end = same_entry queue head r t.end r-is t.end-is in
    let I : Reached → Type 0 = λ x. InQueue tree x.cell in
    let (k, x, x-is, x-cell) = subst I end-same inside in
    let H : ℕ → Type 0 = λ c. Contains (cells_in tree) c in
    let has : Contains (cells_in tree) t.end.cell = subst H x-cell (Contains_from_get (cells_in tree) k x.cell (get_mapped (λ r. r.cell) tree k x x-is)) in
    let leads : Leads g (Free g held) (OnSide g side) t.end.cell (cells_in t.added) = leads_to g (Free g held) (λ c. c ≡ at'.cell) (OnSide g side) (cells_in t.added) t.end.cell (λ c e. subst E (sym e) on-side) t.leads in (
      t.added,
      t.now-is,
      (
        (t.end.cell, has, leads),
        λ others j.
            let (es, len, back) = joining_back g held pair side tree starts others ones on free j in
            let l : t.end.steps ≤ length es = least_reached g (Free g held) (InQueue tree) starts queue head t.end s t.end-is none es back in
            omega (arith, length-map t.added (λ r. r.cell), t.steps),
      ),
      (t.here, t.here-is, subst E (sym t.here-cell) on-side),
    )

-- the way back from the entry where the walk met the region
abbrev pub Back : Grid → List (Option ℕ) → Side → List Reached → List Reached → List Reached → Reached → ℕ → Type 0
Back g held side tree queue now at' place = (head : ℕ) × Found g held side tree queue head × Grafting g held tree queue head now at' place

pub back_start : (g : Grid) (held : List (Option ℕ)) (side : Side) (region : Growth) (queue : List Reached) (met : Met) (at' : Reached) → Leading g held side region queue (Some met) → slice_get queue met.head ≡ Some at'
    → Back g held side region.tree queue region.tree at' met.place
back_start g held side region queue met at' (f, meets, free, size) is = (met.head, f, grafting_start g held region.tree queue met at' is meets)

pub back_within : (g : Grid) (held : List (Option ℕ)) (side : Side) (tree queue : List Reached) (now : List Reached) (at' : Reached) (place : ℕ)
    → Back g held side tree queue now at' place → (at'.from < length queue) × (place < length now)
back_within g held side tree queue now at' place (head, f, t) =
    (grafting_within g held f.starts tree queue head now at' place f.reaches t, slice_get_within now place t.here t.here-is)

pub back_new : (g : Grid) (held : List (Option ℕ)) (side : Side) (tree queue : List Reached) (now : List Reached) (at' y : Reached) (place : ℕ)
    → Back g held side tree queue now at' place → slice_get queue at'.from ≡ Some y → 0 < at'.steps → (InQueue now y.cell → ⊥) × (y.cell < length g.sites)
back_new g held side tree queue now at' y place (head, f, t) is more =
    (grafting_new g held f.starts tree queue head now at' y place f.reaches f.none t is more, f.reaches.within at'.from y is)

pub back_more : (g : Grid) (held : List (Option ℕ)) (side : Side) (tree queue : List Reached) (now after : List Reached) (at' y : Reached) (place next : ℕ)
    → Back g held side tree queue now at' place → slice_get queue at'.from ≡ Some y → 0 < at'.steps → Pushed now y.cell place next after
    → Back g held side tree queue after y next × (y.steps < at'.steps)
back_more g held side tree queue now after at' y place next (head, f, t) is more pushed =
    let (t', less) = grafting_more g held f.pair f.starts tree queue head now after at' y place next f.ones f.reaches t is more pushed in
    ((head, f, t'), less)

pub back_done : (g : Grid) (held : List (Option ℕ)) (side : Side) (tree queue : List Reached) (now : List Reached) (at' : Reached) (place : ℕ)
    → Back g held side tree queue now at' place → at'.steps ≡ 0 → All (Free g held) (cells_in tree) → Follows g held side tree now (Some place)
back_done g held side tree queue now at' place (head, f, t) zero-steps free =
    (grafted g held f.pair side f.starts tree queue head now at' place f.ones f.reaches f.none f.one f.on free t zero-steps, t.rooted)

-- the entry where the walk met the region is in the queue
pub head_within : (g : Grid) (held : List (Option ℕ)) (side : Side) (region : Growth) (queue : List Reached) (met : Met) → Leading g held side region queue (Some met) → met.head < length queue
head_within g held side region queue met (f, (r, x, is, x-is, cell), free, size) = slice_get_within queue met.head r is

-- no walk came to the region
unled : (g : Grid) (held pair : List (Option ℕ)) (side : Side) (tree queue : List Reached) (starts : List ℕ) → FreeOnes g held pair starts → Reaches g (Free g held) starts queue (length queue)
    → NoneBefore (InQueue tree) queue (length queue) → ((c : ℕ) → Contains pair (Some c) ↔ OnSide g side c) → All (Free g held) (cells_in tree)
    → (others : List ℕ) → Joining g (Free g held) (OnSide g side) (cells_in tree) others → ⊥
unled g held pair side tree queue starts ones s none on free others j =
    let (es, len, back) = joining_back g held pair side tree starts others ones on free j in
    none_reached g (Free g held) (InQueue tree) starts queue s none es back

-- what a walk that was made for the region found
pub leading_sought : (g : Grid) (held pair : List (Option ℕ)) (side : Side) (region : Growth) (queue : List Reached) (seen : List Bool) (found : Option Met) → ((c : ℕ) → Contains pair (Some c) ↔ OnSide g side c)
    → All (Free g held) (cells_in region.tree) → region.size ≡ length g.sites → Sought g held pair region.tree queue seen found → Leading g held side region queue found
leading_sought g held pair side region queue seen None on free size (starts, ones, (s, none)) =
    unled g held pair side region.tree queue starts ones (reaches_of g (Free g held) starts queue (length queue) seen s) none on free
leading_sought g held pair side region queue seen (Some met) on free size (starts, ones, (s, one, none), meets) = (
  record { pair = pair; on = on; starts = starts; ones = ones; reaches = reaches_of g (Free g held) starts queue met.head seen s; none = none; one = one },
  meets,
  free,
  size,
)

-- what a kept walk found
pub leading_kept : (g : Grid) (held pair : List (Option ℕ)) (side : Side) (region : Growth) (queue : List Reached) (found : Option Met) → ((c : ℕ) → Contains pair (Some c) ↔ OnSide g side c)
    → All (Free g held) (cells_in region.tree) → region.size ≡ length g.sites → KeptFrom g held pair queue → Meets queue region.tree found → Leading g held side region queue found
leading_kept g held pair side region queue None on free size (starts, ones, s) none = unled g held pair side region.tree queue starts ones s none on free
leading_kept g held pair side region queue (Some met) on free size (starts, ones, s) (none, (r, x, is, x-is, cell)) = (
  record {
    pair = pair;
    on = on;
    starts = starts;
    ones = ones;
    reaches = reaches_before g (Free g held) starts queue (length queue) met.head s (let w : met.head < length queue = slice_get_within queue met.head r is in omega arith);
    none = none;
    one = (r, is, (met.place, x, x-is, cell));
  },
  (r, x, is, x-is, cell),
  free,
  size,
)

-- the walk of one of the walks
pub leading_walk : (g : Grid) (held : List (Option ℕ)) (walks : List Walk) (pair : List (Option ℕ)) (side : Side) (region : Growth) (queue : List Reached) (found : Option Met) → ((c : ℕ) → Contains pair (Some c) ↔ OnSide g side c)
    → All (Free g held) (cells_in region.tree) → region.size ≡ length g.sites → Suits g held walks → HasWalk walks pair queue → Meets queue region.tree found → Leading g held side region queue found
leading_walk g held walks pair side region queue found on free size suits (k, w, is, pair-is, queue-is) meets =
    let P : List (Option ℕ) → Type 0 = λ p. KeptFrom g held p queue in
    let Q : List Reached → Type 0 = λ q. KeptFrom g held w.pair q in
    leading_kept g held pair side region queue found on free size (subst P pair-is (subst Q queue-is (suits k w is))) meets

-- nothing leads to the side, and the region stays as it is
pub follows_none : (g : Grid) (held : List (Option ℕ)) (side : Side) (region : Growth) (queue : List Reached) (found : Option Met) → found ≡ None → Leading g held side region queue found → Follows g held side region.tree region.tree None
follows_none g held side region queue found e leading =
    let P : Option Met → Type 0 = λ o. Leading g held side region queue o in
    ((refl, subst P e leading), λ first rooted. rooted)

pub leading_met : (g : Grid) (held : List (Option ℕ)) (side : Side) (region : Growth) (queue : List Reached) (found : Option Met) (met : Met) → found ≡ Some met → Leading g held side region queue found
    → Leading g held side region queue (Some met)
leading_met g held side region queue found met e leading = let P : Option Met → Type 0 = λ o. Leading g held side region queue o in subst P e leading

pub leading_size : (g : Grid) (held : List (Option ℕ)) (side : Side) (region : Growth) (queue : List Reached) (met : Met) → Leading g held side region queue (Some met) → region.size ≡ length g.sites
leading_size g held side region queue met (f, meets, free, size) = size

pub leading_free : (g : Grid) (held : List (Option ℕ)) (side : Side) (region : Growth) (queue : List Reached) (met : Met) → Leading g held side region queue (Some met) → All (Free g held) (cells_in region.tree)
leading_free g held side region queue met (f, meets, free, size) = free
