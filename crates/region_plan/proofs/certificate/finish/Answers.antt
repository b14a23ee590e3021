use Rattle.std.proofs.Common.{◌≡◌, ◌<◌, ℕ, List, All, length, ap, refl, subst, sym, arith, IsPermutation}
use Rattle.patch_layout.specs.declared.walk.Reached.{Reached}
use Rattle.patch_layout.specs.Tree.{Tree, ParentsNamed}
use Rattle.region_plan.specs.Free.{Free}
use Rattle.region_plan.specs.inside.Tree.{cells_in}
use Rattle.region_plan.specs.inside.Finish.{PlacesIn, Renumbered}
use Rattle.region_plan.proofs.Finishing.{sorted_cells, touched_within, tree_within, finished}
use Rattle.region_plan.proofs.certificate.finish.Goals as goal

pub places_of-requires-clause-cells : goal.places_of-requires-clause-cells
places_of-requires-clause-cells c =
    let perm : IsPermutation (cells_in c.args.region.tree.tree) c.in_ok-cells.cells.items = simp c.as_slice-tree.ensures at c.in_ok-cells.ensures.same in
    (sorted_cells c.args.layout.now c.args.look.now.held c.args.look.now.axis c.args.port c.requires.0 c.args.region.tree.tree c.args.region.touched.items c.in_ok-cells.cells.items c.deref.result.now c.size.result
    c.requires.1 perm c.deref.ensures.value c.size.ensures.value).0

pub places_of-requires-clause-distinct : goal.places_of-requires-clause-distinct
places_of-requires-clause-distinct c =
    let perm : IsPermutation (cells_in c.args.region.tree.tree) c.in_ok-cells.cells.items = simp c.as_slice-tree.ensures at c.in_ok-cells.ensures.same in
    (sorted_cells c.args.layout.now c.args.look.now.held c.args.look.now.axis c.args.port c.requires.0 c.args.region.tree.tree c.args.region.touched.items c.in_ok-cells.cells.items c.deref.result.now c.size.result
    c.requires.1 perm c.deref.ensures.value c.size.ensures.value).1

pub parents_of-requires-clause-tree : goal.parents_of-requires-clause-tree
parents_of-requires-clause-tree c =
    let perm : IsPermutation (cells_in c.args.region.tree.tree) c.in_ok-cells.cells.items = simp c.as_slice-tree.ensures at c.in_ok-cells.ensures.same in
    let P : List Reached → Type 0 = λ x. Tree c.deref-2.result.now x in
    subst P (sym c.as_slice-tree.ensures) (sorted_cells c.args.layout.now c.args.look.now.held c.args.look.now.axis c.args.port c.requires.0 c.args.region.tree.tree c.args.region.touched.items c.in_ok-cells.cells.items c.deref-2.result.now c.size.result
    c.requires.1 perm c.deref-2.ensures.value c.size.ensures.value).2

pub touches_of-requires-clause-touched : goal.touches_of-requires-clause-touched
touches_of-requires-clause-touched c =
    let P : List ℕ → Type 0 = λ x. All (λ t. t < length c.as_slice-tree.result.now) x in
    let Q : List Reached → Type 0 = λ x. All (λ t. t < length x) c.args.region.touched.items in
    subst P (sym c.deref-4.ensures.value) (subst Q (sym c.as_slice-tree.ensures) (touched_within c.args.layout.now (Free c.args.layout.now c.args.look.now.held) _ c.requires.0 c.args.region.tree.tree c.args.region.touched.items c.requires.1))

pub touches_of-requires-clause-cells : goal.touches_of-requires-clause-cells
touches_of-requires-clause-cells c =
    let P : List ℕ → Type 0 = λ x. All (λ t. t < length x) (cells_in c.as_slice-tree.result.now) in
    let S : ℕ → Type 0 = λ x. All (λ t. t < x) (cells_in c.as_slice-tree.result.now) in
    let Q : List Reached → Type 0 = λ x. All (λ t. t < c.size.result) (cells_in x) in
    subst P (sym c.deref-5.ensures.value) (subst S (sym c.in_ok-places.ensures.sizes) (subst Q (sym c.as_slice-tree.ensures)
    (tree_within c.args.layout.now c.args.look.now.held c.args.look.now.axis c.args.port c.requires.0 c.args.region.tree.tree c.args.region.touched.items c.size.result c.requires.1 c.size.ensures.value)))

pub returns : goal.returns
returns c =
    let perm : IsPermutation (cells_in c.args.region.tree.tree) c.in_ok-cells.cells.items = simp c.as_slice-tree.ensures at c.in_ok-cells.ensures.same in
    let P : List ℕ → Type 0 = λ x. PlacesIn x c.in_ok-places.places.items in
    let len : length c.deref-2.result.now ≡ length c.in_ok-cells.cells.items = ap (λ (x : List ℕ). length x) c.deref-2.ensures.value in
    let N : List Reached → Type 0 = λ x. ParentsNamed x c.deref-3.result.now c.in_ok-parents.parents.items (length x) in
    let M : List ℕ → Type 0 = λ x. ParentsNamed c.args.region.tree.tree x c.in_ok-parents.parents.items (length c.args.region.tree.tree) in
    let A : List Reached → Type 0 = λ x. Renumbered x c.deref-5.result.now c.deref-4.result.now c.in_ok-touches.touches.items in
    let B : List ℕ → Type 0 = λ x. Renumbered c.args.region.tree.tree x c.deref-4.result.now c.in_ok-touches.touches.items in
    let C : List ℕ → Type 0 = λ x. Renumbered c.args.region.tree.tree c.in_ok-places.places.items x c.in_ok-touches.touches.items in
    finished c.args.layout.now c.args.look.now c.args.port c.requires.0 c.args.region.tree.tree c.args.region.touched.items c.in_ok-cells.cells.items c.in_ok-places.places.items c.in_ok-parents.parents.items c.in_ok-touches.touches.items _
    c.requires.1 perm c.in_ok-cells.ensures.ascending (subst P c.deref.ensures.value c.in_ok-places.ensures.places) (omega (arith, c.in_ok-parents.ensures.sizes, len))
    (subst M c.deref-3.ensures.value (subst N c.as_slice-tree.ensures c.in_ok-parents.ensures.named))
    (subst C c.deref-4.ensures.value (subst B c.deref-5.ensures.value (subst A c.as_slice-tree.ensures c.in_ok-touches.ensures)))
    refl c.in_ok-axis.ensures refl c.of.ensures c.of-2.ensures c.of-3.ensures
