-- A region in the order of its growth gets one more cell.
use Rattle.std.proofs.Common.{◌≡◌, ℕ, ◌+◌, inl, inr, slice_get, Some, List, [], ◌∷◌, ◌++◌, subst, arith}
use Rattle.std.proofs.lemmas.Option.{slice_get_within}
use Rattle.std.proofs.lemmas.List.{map-append}
use Rattle.patch_layout.specs.declared.walk.Reached.{Reached}
use Rattle.patch_layout.specs.Grid.{Grid, Adjacent}
use Rattle.patch_layout.specs.Spread.{Came}
use Rattle.patch_layout.proofs.Places.{get_cases, get_kept}
use Rattle.region_plan.specs.inside.Tree.{cells_in, Rooted}

pub cells_more : (tree added : List Reached) → cells_in (tree ++ added) ≡ cells_in tree ++ cells_in added
cells_more tree added = map-append (λ r. r.cell) tree added

pub came_kept : (g : Grid) (Free : ℕ → Type 0) (starts : List ℕ) (tree added : List Reached) (k : ℕ) (r : Reached) → Came g Free starts tree k r → Came g Free starts (tree ++ added) k r
came_kept g Free starts tree added k r came = elim came [
  | inl start ↦ inl start
  | inr f ↦ inr (record { base = f.base; is = get_kept tree added r.from f.base f.is; earlier = f.earlier; steps = f.steps; adjacent = f.adjacent; free = f.free })
]

pub rooted_more : (g : Grid) (Free : ℕ → Type 0) (first : ℕ) (tree : List Reached) (base next : Reached) → Rooted g Free first tree
    → slice_get tree next.from ≡ Some base → next.steps ≡ base.steps + 1 → Adjacent g base.cell next.cell → Free next.cell → Rooted g Free first (tree ++ next ∷ [])
rooted_more g Free first tree base next rooted from steps adj free k r e = elim (get_cases tree next k r e) [
  | inl old ↦ came_kept g Free (first ∷ []) tree (next ∷ []) k r (rooted k r old)
  | inr new ↦
      let P : Reached → Type 0 = λ x. Came g Free (first ∷ []) (tree ++ next ∷ []) k x in
      subst P new.1 (inr (record {
        base = base;
        is = get_kept tree (next ∷ []) next.from base from;
        earlier = omega (arith, slice_get_within tree next.from base from, new.0);
        steps = steps;
        adjacent = adj;
        free = free;
      }))
]
