-- The tree of parents is written, and fits.
use Rattle.std.proofs.Common.{◌≡◌, ◌≢◌, ℕ, zero, suc, Bool, true, ◌+◌, ◌<◌, inl, inr, length, map, take, slice_get, slice_set, get_or, Some, List, [], ◌∷◌, ◌++◌, refl, sym, subst, arith, Contains, All, AllPairs, length-take, ap, drop}
use Rattle.std.proofs.lemmas.Option.{slice_get_within, slice_get-get_or, get_or_from_slice_get}
use Rattle.std.proofs.lemmas.Bool.{cases_lt}
use Rattle.std.proofs.lemmas.List.{take_more}
use Rattle.patch_layout.specs.declared.walk.Reached.{Reached}
use Rattle.patch_layout.specs.declared.plan.Parent.{Parent}
use Rattle.patch_layout.specs.Grid.{Grid, Adjacent, Leads, Joins}
use Rattle.patch_layout.specs.Spread.{Marked, Spread, starting}
use Rattle.patch_layout.specs.Tree.{Tree, ParentsNamed}
use Rattle.patch_layout.specs.inside.Tree.{Placed}
use Rattle.patch_layout.specs.Region.{AreJoined}
use Rattle.patch_layout.specs.Certificate.{ParentFits, Each}
use Rattle.patch_layout.proofs.Places.{same_entry, get_below, get_cases, get_set_here, get_set_other, Contains_from_get, get_from_Contains}
use Rattle.patch_layout.proofs.Looking.{begun_more, one_place}
use Rattle.patch_layout.proofs.Walking.{reaches}
use Rattle.patch_layout.proofs.Neighbours.{neighbour_back}

pub get_taken : {X : Type 0} (xs : List X) (n k : ℕ) (x : X) → slice_get (take n xs) k ≡ Some x → (k < n) × (slice_get xs k ≡ Some x)
get_taken [] zero k x h = absurd (cc)
get_taken [] (suc n) k x h = absurd (cc)
get_taken (y ∷ xs) zero k x h = absurd (cc)
get_taken (y ∷ xs) (suc n) zero x h = (omega arith, h)
get_taken (y ∷ xs) (suc n) (suc k) x h = let r = get_taken xs n k x h in (omega (arith, r.0), r.1)

-- one more cell is marked, and its place noted
pub placed_more : (cells : List ℕ) (marks : List Bool) (places : List ℕ) (i : ℕ) → Placed (take i cells) marks places → i < length cells
    → All (λ c. c < length marks) cells → length places ≡ length marks → AllPairs (λ a b. a ≢ b) cells
    → Placed (take (i + 1) cells) (slice_set marks (get_or cells i 0) true) (slice_set places (get_or cells i 0) i)
placed_more cells marks places i p in' within sizes distinct =
    let x : ℕ = get_or cells i 0 in
    let both = begun_more cells (map starting (take i cells)) (map starting (take i cells) ++ starting x ∷ []) marks i refl p.among in' refl p.marked within in
    let t : take (i + 1) cells ≡ take i cells ++ x ∷ [] = take_more cells i 0 in' in
    let x-in : x < length places = let w : x < length marks = within i 0 in' in omega arith in
    record {
      among = both.1;
      marked = both.2;
      place = λ k c e.
          let P : List ℕ → Type 0 = λ xs. slice_get xs k ≡ Some c in
          elim (get_cases (take i cells) x k c (subst P t e)) [
            | inl old ↦
                let r = get_taken cells i k c old in
                get_set_other places x c i k (λ same.
                let Q : ℕ → Type 0 = λ y. slice_get cells i ≡ Some y in
                let w : i ≡ k = one_place cells distinct i k c (subst Q same (slice_get-get_or cells i 0 in')) r.1 in omega (arith, r.0)) (p.place k c old)
            | inr new ↦
                let k-is : k ≡ i = omega (arith, new.0, length-take i cells) in
                let Q : ℕ → Type 0 = λ y. slice_get (slice_set places x i) y ≡ Some k in
                let R : ℕ → Type 0 = λ y. slice_get (slice_set places x i) x ≡ Some y in
                subst Q new.1 (subst R (sym k-is) (get_set_here places x i x-in))
          ];
    }

-- the place of an entry's cell
pub place_of : (cells : List ℕ) (queue : List Reached) (places : List ℕ) → Tree cells queue → ((i c : ℕ) → slice_get cells i ≡ Some c → slice_get places c ≡ Some i)
    → (k : ℕ) (r : Reached) → slice_get queue k ≡ Some r → (i : ℕ) × (slice_get cells i ≡ Some r.cell) × (slice_get places r.cell ≡ Some i)
place_of cells queue places t at' k r is =
    let (i, e) = get_from_Contains cells r.cell (t.cell k r is) in (i, e, at' i r.cell e)

-- one more entry is named
pub named_more : (cells : List ℕ) (queue : List Reached) (places : List ℕ) (parents : List Parent) (n : ℕ) (d : Reached) → Tree cells queue
    → ((i c : ℕ) → slice_get cells i ≡ Some c → slice_get places c ≡ Some i) → length parents ≡ length cells → n < length queue → ParentsNamed queue places parents n
    → ParentsNamed queue places (slice_set parents (get_or places (get_or queue n d).cell 0) (record { index = get_or places (get_or queue (get_or queue n d).from d).cell 0; depth = (get_or queue n d).steps })) (n + 1)
named_more cells queue places parents n d t at' sizes in' named k r b i j kn er eb ei ej =
    let r0 : Reached = get_or queue n d in
    let er0 : slice_get queue n ≡ Some r0 = slice_get-get_or queue n d in' in
    let b0 : Reached = get_or queue r0.from d in
    let eb0 : slice_get queue r0.from ≡ Some b0 = slice_get-get_or queue r0.from d (t.base n r0 er0) in
    let pr = place_of cells queue places t at' n r0 er0 in
    let pb = place_of cells queue places t at' r0.from b0 eb0 in
    let gi : get_or places r0.cell 0 ≡ pr.0 = get_or_from_slice_get places r0.cell pr.0 0 pr.2 in
    let new : Parent = record { index = get_or places b0.cell 0; depth = r0.steps } in
    let in-parents : get_or places r0.cell 0 < length parents = let w : pr.0 < length cells = slice_get_within cells pr.0 r0.cell pr.1 in omega arith in
    elim (cases_lt k n) [
      | inl lt ↦
          let p = place_of cells queue places t at' k r er in
          let pi : p.0 ≡ i = same_entry places r.cell p.0 i p.2 ei in
          get_set_other parents (get_or places r0.cell 0) i new (record { index = j; depth = r.steps })
          (λ same.
          let P : ℕ → Type 0 = λ y. slice_get cells y ≡ Some r0.cell in
          let here : slice_get cells p.0 ≡ Some r0.cell = subst P (let w : pr.0 ≡ p.0 = omega arith in w) pr.1 in
          let cell-same : r.cell ≡ r0.cell = same_entry cells p.0 r.cell r0.cell p.1 here in
          let w : k ≡ n = t.once k n r r0 er er0 cell-same in omega arith)
          (named k r b i j lt er eb ei ej)
      | inr ge ↦
          let k-is : k ≡ n = omega arith in
          let P : ℕ → Type 0 = λ y. slice_get queue y ≡ Some r in
          let r-is : r ≡ r0 = same_entry queue n r r0 (subst P k-is er) er0 in
          let Q : Reached → Type 0 = λ y. slice_get queue y.from ≡ Some b in
          let b-is : b ≡ b0 = same_entry queue r0.from b b0 (subst Q r-is eb) eb0 in
          let R : Reached → Type 0 = λ y. slice_get places y.cell ≡ Some i in
          let i-is : get_or places r0.cell 0 ≡ i = get_or_from_slice_get places r0.cell i 0 (subst R r-is ei) in
          let S : Reached → Type 0 = λ y. slice_get places y.cell ≡ Some j in
          let j-is : get_or places b0.cell 0 ≡ j = get_or_from_slice_get places b0.cell j 0 (subst S b-is ej) in
          let U : Reached → Type 0 = λ y. slice_get (slice_set parents (get_or places r0.cell 0) new) i ≡ Some (record { index = j; depth = y.steps }) in
          let V : ℕ → Type 0 = λ y. slice_get (slice_set parents (get_or places r0.cell 0) new) y ≡ Some (record { index = j; depth = r0.steps }) in
          let W : ℕ → Type 0 = λ y. slice_get (slice_set parents (get_or places r0.cell 0) new) (get_or places r0.cell 0) ≡ Some (record { index = y; depth = r0.steps }) in
          subst U (sym r-is) (subst V i-is (subst W j-is (get_set_here parents (get_or places r0.cell 0) new in-parents)))
    ]

pub only : (c x : ℕ) → Contains (c ∷ []) x → c ≡ x
only c x (zero, b, e) = e
only c x (suc k, b, e) = absurd (omega arith)

-- what the walk's queue says of the cells
pub tree_of : (g : Grid) (cells : List ℕ) (marks : List Bool) (places : List ℕ) (first : ℕ) (queue : List Reached) (head : ℕ) (seen : List Bool)
    → Placed cells marks places → Contains cells first → Spread g (Marked marks) (first ∷ []) queue head seen → Tree cells queue
tree_of g cells marks places first queue head seen p has s =
    record {
      cell = λ k r e. elim (s.came k r e) [
        | inl start ↦ let P : ℕ → Type 0 = λ x. Contains cells x in subst P (only first r.cell start.2) has
        | inr f ↦ p.among r.cell f.free
      ];
      base = λ k r e. elim (s.came k r e) [
        | inl start ↦ let w : k < length queue = slice_get_within queue k r e in omega (arith, start.1)
        | inr f ↦ slice_get_within queue r.from f.base f.is
      ];
      once = s.once;
    }

-- an entry's cell has a parent of the entry's depth
pub named_at : (cells : List ℕ) (queue : List Reached) (places : List ℕ) (parents : List Parent) → Tree cells queue → ((i c : ℕ) → slice_get cells i ≡ Some c → slice_get places c ≡ Some i)
    → ParentsNamed queue places parents (length queue) → (k : ℕ) (r : Reached) (i : ℕ) → slice_get queue k ≡ Some r → slice_get cells i ≡ Some r.cell
    → (b : Reached) × (j : ℕ) × (slice_get queue r.from ≡ Some b) × (slice_get cells j ≡ Some b.cell) × (slice_get parents i ≡ Some (record { index = j; depth = r.steps }))
named_at cells queue places parents t at' named k r i er ei =
    let (b, eb) = get_below queue r.from (t.base k r er) in
    let (j, ej, pj) = place_of cells queue places t at' r.from b eb in
    (b, j, eb, ej, named k r b i j (slice_get_within queue k r er) er eb (at' i r.cell ei) pj)

pub leads_wider : (g : Grid) (P Q T : ℕ → Type 0) (cs : List ℕ) (a : ℕ) → ((x : ℕ) → P x → Q x) → Leads g P T a cs → Leads g Q T a cs
leads_wider g P Q T [] a f t = t
leads_wider g P Q T (c ∷ cs) a f (adj, p, rest) = (adj, f c p, leads_wider g P Q T cs c f rest)

-- where the region is joined, each parent fits
pub tree_fits : (g : Grid) (cells : List ℕ) (marks : List Bool) (places : List ℕ) (parents : List Parent) (first : ℕ) (queue : List Reached) (seen : List Bool)
    → slice_get cells 0 ≡ Some first → AllPairs (λ a b. a ≢ b) cells → Placed cells marks places → Spread g (Marked marks) (first ∷ []) queue (length queue) seen
    → ParentsNamed queue places parents (length queue) → ((a b : ℕ) → Contains cells a → Contains cells b → Joins g (Contains cells) a b)
    → Each (ParentFits g cells parents) (length cells)
tree_fits g cells marks places parents first queue seen at-first distinct p s named joined i in' =
    let has : Contains cells first = Contains_from_get cells 0 first at-first in
    let t : Tree cells queue = tree_of g cells marks places first queue (length queue) seen p has s in
    let (c, ec) = get_below cells i in' in
    let (k0, r0, e0, cell0, steps0) = s.start first (0, omega arith, refl) in
    let way = joined first c has (Contains_from_get cells i c ec) in
    let L : ℕ → Type 0 = λ x. Leads g (Marked marks) (λ y. y ≡ c) x way.0 in
    let leads : L r0.cell = subst L (sym cell0) (leads_wider g (Contains cells) (Marked marks) (λ y. y ≡ c) way.0 first p.marked way.2) in
    let (k, r, er, cell) = reaches g (Marked marks) (first ∷ []) queue seen c s way.0 k0 r0 e0 leads in
    let P : ℕ → Type 0 = λ x. slice_get cells i ≡ Some x in
    let er-place : slice_get cells i ≡ Some r.cell = subst P (sym cell) ec in
    let (b, j, eb, ej, ep) = named_at cells queue places parents t p.place named k r i er er-place in (
      record { index = j; depth = r.steps },
      ep,
      elim (s.came k r er) [
        | inl start ↦
            let r-first : first ≡ r.cell = only first r.cell start.2 in
            let i-zero : 0 ≡ i = one_place cells distinct 0 i r.cell (subst (λ (x : ℕ). slice_get cells 0 ≡ Some x) r-first at-first) er-place in
            let eb0 : slice_get queue 0 ≡ Some b = subst (λ (x : ℕ). slice_get queue x ≡ Some b) start.1 eb in
            let b-first : first ≡ b.cell = elim (s.came 0 b eb0) [ inl st ↦ only first b.cell st.2 | inr f ↦ absurd {A = first ≡ b.cell} (omega (arith, f.earlier)) ] in
            let j-zero : 0 ≡ j = one_place cells distinct 0 j b.cell (subst (λ (x : ℕ). slice_get cells 0 ≡ Some x) b-first at-first) ej in
            inl (start.0, omega arith, λ m q lt at-m none. omega arith)
        | inr f ↦
            let b-is : f.base ≡ b = same_entry queue r.from f.base b f.is eb in
            let (b', j', eb', ej', ep') = named_at cells queue places parents t p.place named r.from b j eb ej in
            let A : Reached → Type 0 = λ x. Adjacent g x.cell r.cell in
            let S : Reached → Type 0 = λ x. r.steps ≡ x.steps + 1 in
            inr (record {
              above = record { index = j'; depth = b.steps };
              is = ep';
              depth = subst S b-is f.steps;
              cell = r.cell;
              cell-is = er-place;
              next = b.cell;
              next-is = ej;
              adjacent = neighbour_back g b.cell r.cell (s.within r.from b eb) (subst A b-is f.adjacent);
            })
      ],
    )

pub walked_tree : (g : Grid) (cells : List ℕ) (marks : List Bool) (places : List ℕ) (first : ℕ) (queue q : List Reached) (seen : List Bool)
    → slice_get cells 0 ≡ Some first → Placed cells marks places → q ≡ queue → Spread g (Marked marks) (first ∷ []) queue (length queue) seen → Tree cells q
walked_tree g cells marks places first queue q seen at-first p e w =
    let P : List Reached → Type 0 = λ x. Tree cells x in
    subst P (sym e) (tree_of g cells marks places first queue (length queue) seen p (Contains_from_get cells 0 first at-first) w)

pub walked_parents : (g : Grid) (cells : List ℕ) (marks : List Bool) (places : List ℕ) (parents : List Parent) (first : ℕ) (queue q : List Reached) (seen : List Bool)
    → slice_get cells 0 ≡ Some first → AllPairs (λ a b. a ≢ b) cells → Placed cells marks places → q ≡ queue
    → Spread g (Marked marks) (first ∷ []) queue (length queue) seen → ParentsNamed q places parents (length q) → AreJoined g cells
    → Each (ParentFits g cells parents) (length cells)
walked_parents g cells marks places parents first queue q seen at-first distinct p e w named joined =
    let P : List Reached → Type 0 = λ x. ParentsNamed x places parents (length x) in
    tree_fits g cells marks places parents first queue seen at-first distinct p w (subst P e named) joined

pub take_front : {X : Type 0} (xs ys : List X) → take (length xs) (xs ++ ys) ≡ xs
take_front [] ys = refl
take_front (x ∷ xs) ys = ap (λ zs. x ∷ zs) (take_front xs ys)

-- the list that a slice is written back to, where no length changed
pub written_back : {X : Type 0} (new old : List X) (n : ℕ) → length new ≡ n → take n (new ++ drop (length new) old) ≡ new
written_back new old n e = let P : ℕ → Type 0 = λ m. take m (new ++ drop (length new) old) ≡ new in subst P e (take_front new (drop (length new) old))
