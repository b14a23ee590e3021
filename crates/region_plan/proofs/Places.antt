-- The table of the places of a region's cells.
use Rattle.std.proofs.Common.{◌≡◌, ◌↔◌, ℕ, zero, suc, ◌+◌, ◌<◌, ◌≤◌, ◌^◌, inl, inr, length, replicate, slice_get, slice_set, get_or, Option, Some, None, List, [], ◌∷◌, ◌++◌, refl, sym, subst, arith, All}
use Rattle.std.proofs.lemmas.Option.{slice_get_within, slice_get-get_or, same_Some}
use Rattle.std.proofs.Math.ListN.{length-set}
use Rattle.std.proofs.lemmas.List.{length-map}
use Rattle.patch_layout.specs.declared.walk.Reached.{Reached}
use Rattle.patch_layout.specs.Spread.{starting, InQueue}
use Rattle.patch_layout.proofs.Places.{get_cases, get_kept, get_added, get_set_cases, get_set_here, get_set_other, same_entry, get_map}
use Rattle.region_plan.specs.inside.Tree.{Placing, cells_in, PlaceOf}
use Rattle.region_plan.proofs.Least.{Distinct, below_few}

none_in : (n c k : ℕ) → slice_get (replicate {A = Option ℕ} n None) c ≡ Some (Some k) → ⊥
none_in zero c k e = cc
none_in (suc n) zero k e = cc
none_in (suc n) (suc c) k e = none_in n c k e

length_of : {X : Type 0} (n : ℕ) (x : X) → length (replicate n x) ≡ n
length_of zero x = refl
length_of (suc n) x = let e = length_of n x in omega (arith, e)

-- one cell
pub placing_one : (tree : List Reached) (places : List (Option ℕ)) (size first : ℕ) → tree ≡ starting first ∷ [] → places ≡ replicate size None → first < size → size < 2 ^ 32
    → Placing tree (slice_set places first (Some 0))
placing_one tree places size first te pe in' fits =
    let len : length places ≡ size = (let P : List (Option ℕ) → Type 0 = λ xs. length xs ≡ size in subst P (sym pe) (length_of size None)) in
    let only = λ (k : ℕ) (r : Reached) (e : slice_get tree k ≡ Some r).
    let P : List Reached → Type 0 = λ xs. slice_get xs k ≡ Some r in
    let f : slice_get ([] ++ starting first ∷ []) k ≡ Some r = subst P te e in
    let both : (k ≡ 0) × (starting first ≡ r) = elim (get_cases [] (starting first) k r f) [ inl old ↦ absurd (cc) | inr new ↦ new ] in
    both in
    record {
      few = omega (arith, length-set places first (Some 0));
      place = λ k r e. let (ke, re) = only k r e in
          let P : Reached → Type 0 = λ x. slice_get (slice_set places first (Some 0)) x.cell ≡ Some (Some k) in
          let Q : ℕ → Type 0 = λ x. slice_get (slice_set places first (Some 0)) first ≡ Some (Some x) in
          subst P re (subst Q (sym ke) (get_set_here places first (Some 0) (omega arith)));
      is_place = λ c k e. elim (get_set_cases places first (Some 0) c (Some k) e) [
        | inl old ↦ let P : List (Option ℕ) → Type 0 = λ xs. slice_get xs c ≡ Some (Some k) in absurd (none_in size c k (subst P pe old))
        | inr new ↦
            let z : 0 ≡ k = same_Some 0 k new.1 in
            let P : List Reached → Type 0 = λ xs. slice_get xs k ≡ Some (starting first) in
            let Q : ℕ → Type 0 = λ x. slice_get (starting first ∷ []) x ≡ Some (starting first) in
            (starting first, subst P (sym te) (subst Q z refl), sym new.0)
      ];
      steps = λ k r e. let (ke, re) = only k r e in let P : Reached → Type 0 = λ x. x.steps ≤ k in subst P re (omega arith);
    }

-- a cell stands once in the region
pub placed_once : (tree : List Reached) (places : List (Option ℕ)) → Placing tree places → (i j : ℕ) (a b : Reached) → slice_get tree i ≡ Some a → slice_get tree j ≡ Some b → a.cell ≡ b.cell → i ≡ j
placed_once tree places p i j a b ea eb same =
    let P : ℕ → Type 0 = λ x. slice_get places x ≡ Some (Some i) in
    let e : Some i ≡ Some j = same_entry places b.cell (Some i) (Some j) (subst P same (p.place i a ea)) (p.place j b eb) in
    same_Some i j e

pub cells_distinct : (tree : List Reached) → ((i j : ℕ) (a b : Reached) → slice_get tree i ≡ Some a → slice_get tree j ≡ Some b → a.cell ≡ b.cell → i ≡ j) → Distinct (cells_in tree)
cells_distinct tree once i j d lt len =
    let ei = slice_get-get_or (cells_in tree) i d (omega arith) in
    let ej = slice_get-get_or (cells_in tree) j d len in
    let (a, ea, ca) = get_map (λ r. r.cell) tree i (get_or (cells_in tree) i d) ei in
    let (b, eb, cb) = get_map (λ r. r.cell) tree j (get_or (cells_in tree) j d) ej in
    λ same. let w : i ≡ j = once i j a b ea eb (let s : a.cell ≡ b.cell = cc in s) in omega arith

-- the region has no more cells than the grid
pub placed_few : (tree : List Reached) (places : List (Option ℕ)) → Placing tree places → length tree ≤ length places
placed_few tree places p =
    let within : All (λ x. x < length places) (cells_in tree) = λ k d b.
    let ek = slice_get-get_or (cells_in tree) k d b in
    let (a, ea, ca) = get_map (λ r. r.cell) tree k (get_or (cells_in tree) k d) ek in
    let w : a.cell < length places = slice_get_within places a.cell (Some k) (p.place k a ea) in
    omega arith in
    let few : length (cells_in tree) ≤ length places = below_few (length places) (cells_in tree) (cells_distinct tree (placed_once tree places p)) within in
    omega (arith, length-map tree (λ r. r.cell))

-- one more cell
pub placing_more : (tree after : List Reached) (places : List (Option ℕ)) (base next : Reached) (place : ℕ) → Placing tree places → after ≡ tree ++ next ∷ [] → next.cell < length places → (InQueue tree next.cell → ⊥)
    → slice_get tree next.from ≡ Some base → next.steps ≡ base.steps + 1 → place ≡ length tree
    → Placing after (slice_set places next.cell (Some place))
placing_more tree after places base next place p ae in' new from steps pe =
    let P : List Reached → Type 0 = λ xs. Placing xs (slice_set places next.cell (Some place)) in
    let other = λ (k : ℕ) (r : Reached) (e : slice_get tree k ≡ Some r) (same : next.cell ≡ r.cell). new (k, r, e, sym same) in
    subst P (sym ae) (record {
      few = omega (arith, length-set places next.cell (Some place), p.few);
      place = λ k r e. elim (get_cases tree next k r e) [
        | inl old ↦ get_set_other places next.cell r.cell (Some place) (Some k) (other k r old) (p.place k r old)
        | inr fresh ↦
            let Q : Reached → Type 0 = λ x. slice_get (slice_set places next.cell (Some place)) x.cell ≡ Some (Some k) in
            let R : ℕ → Type 0 = λ x. slice_get (slice_set places next.cell (Some place)) next.cell ≡ Some (Some x) in
            subst Q fresh.1 (subst R (let w : place ≡ k = omega (arith, fresh.0) in w) (get_set_here places next.cell (Some place) in'))
      ];
      is_place = λ c k e. elim (get_set_cases places next.cell (Some place) c (Some k) e) [
        | inl old ↦ let (r, is, cell) = p.is_place c k old in (r, get_kept tree (next ∷ []) k r is, cell)
        | inr fresh ↦
            let w : place ≡ k = same_Some place k fresh.1 in
            let Q : ℕ → Type 0 = λ x. slice_get (tree ++ next ∷ []) x ≡ Some next in
            (next, subst Q (let v : length tree ≡ k = omega arith in v) (get_added tree next), sym fresh.0)
      ];
      steps = λ k r e. elim (get_cases tree next k r e) [
        | inl old ↦ p.steps k r old
        | inr fresh ↦
            let b : base.steps ≤ next.from = p.steps next.from base from in
            let w : next.from < length tree = slice_get_within tree next.from base from in
            let Q : Reached → Type 0 = λ x. x.steps ≤ k in subst Q fresh.1 (omega (arith, fresh.0))
      ];
    })

pub place_of : (tree : List Reached) (places : List (Option ℕ)) (c : ℕ) (o : Option ℕ) → Placing tree places → ((k : ℕ) → (o ≡ Some k) ↔ (slice_get places c ≡ Some (Some k))) → PlaceOf tree c o
place_of tree places c None p at' = λ (k, r, is, cell).
    let P : ℕ → Type 0 = λ x. slice_get places x ≡ Some (Some k) in
    let e : ◌≡◌ {A = Option ℕ} None (Some k) = (at' k).1 (subst P cell (p.place k r is)) in cc
place_of tree places c (Some k) p at' = p.is_place c k ((at' k).0 refl)
