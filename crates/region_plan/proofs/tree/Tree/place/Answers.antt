use Rattle.std.proofs.Common.{◌≡◌, ◌↔◌, ℕ, List, Option, Some, slice_get, subst}
use Rattle.region_plan.specs.inside.Tree.{Growth, PlaceOf}
use Rattle.region_plan.proofs.Places.{place_of}
use Rattle.region_plan.proofs.tree.Tree.place.Goals as goal

pub returns : goal.returns
returns c =
    let P : List (Option ℕ) → Type 0 = λ xs. (k : ℕ) → (c.entry.result ≡ Some k) ↔ (slice_get xs c.args.cell ≡ Some (Some k)) in
    let Q : Growth → Type 0 = λ x. PlaceOf x.tree c.args.cell c.entry.result in
    subst Q c.self.view_is
    (place_of c.self.inside.tree.items c.self.inside.places.items c.args.cell c.entry.result c.self.invariant (subst P c.deref.ensures.value c.entry.ensures))
