use Rattle.std.proofs.Common.{◌≡◌, ◌<◌, ℕ, length, get_or, arith, length-append, [], ◌∷◌, slice_get, Some}
use Rattle.std.proofs.lemmas.Option.{slice_get-get_or}
use Rattle.std.proofs.lemmas.List.Elements.{All-contains}
use Rattle.patch_layout.specs.declared.walk.Reached.{Reached}
use Rattle.patch_layout.proofs.Places.{Contains_from_get, get_mapped}
use Rattle.region_plan.specs.inside.Tree.{cells_in}
use Rattle.region_plan.proofs.Finishing.{renumbered_next}
use Rattle.region_plan.proofs.certificate.touches_of.Goals as goal

pub bounds-places-reached : goal.bounds-places-reached
bounds-places-reached c =
    let none : Reached = record { cell = 0; from = 0; steps = 0 } in
    let t : ℕ = get_or c.args.touched.now c.loop-place.place-index 0 in
    let er : slice_get c.args.tree.now t ≡ Some (get_or c.args.tree.now t none) = slice_get-get_or c.args.tree.now t none (c.requires.touched c.loop-place.place-index 0 c.loop-place-test.true) in
    All-contains (λ x. x < length c.args.places.now) (cells_in c.args.tree.now) (get_or c.args.tree.now t none).cell c.requires.cells
    (Contains_from_get (cells_in c.args.tree.now) t (get_or c.args.tree.now t none).cell (get_mapped (λ r. r.cell) c.args.tree.now t (get_or c.args.tree.now t none) er))

pub loop-place-preserved : goal.loop-place-preserved
loop-place-preserved c =
    let none : Reached = record { cell = 0; from = 0; steps = 0 } in
    let t : ℕ = get_or c.args.touched.now c.loop-place.place-index 0 in
    let r : Reached = get_or c.args.tree.now t none in
    let er : slice_get c.args.tree.now t ≡ Some r = slice_get-get_or c.args.tree.now t none (c.requires.touched c.loop-place.place-index 0 c.loop-place-test.true) in
    let in' : r.cell < length c.args.places.now = All-contains (λ x. x < length c.args.places.now) (cells_in c.args.tree.now) r.cell c.requires.cells
    (Contains_from_get (cells_in c.args.tree.now) t r.cell (get_mapped (λ r. r.cell) c.args.tree.now t r er)) in (
      renumbered_next c.args.tree.now c.args.places.now c.args.touched.now c.loop-place.touches.items c.push.new.self.items c.loop-place.place-index t (get_or c.args.places.now r.cell 0) r
          c.loop-place.invariant.0 c.loop-place.invariant.1 (slice_get-get_or c.args.touched.now c.loop-place.place-index 0 c.loop-place-test.true) er (slice_get-get_or c.args.places.now r.cell 0 in') c.in_ok-push.ensures.items,
      omega (arith, c.loop-place.invariant.1, length-append c.loop-place.touches.items (get_or c.args.places.now r.cell 0 ∷ []), c.in_ok-push.ensures.len, c.push.new.self.ok.0, c.loop-place.touches.ok.0),
    )
