use Rattle.std.proofs.Common.{◌≡◌, List, Some, length, slice_get, refl, subst}
use Rattle.std.proofs.lemmas.Option.{slice_get_read}
use Rattle.region_plan.specs.declared.kept.Walk.{Walk}
use Rattle.region_plan.proofs.Keeping.{has_walk}
use Rattle.region_plan.proofs.kept.Walks.walk.Goals as goal

pub returns-then-is_pair : goal.returns-then-is_pair
returns-then-is_pair c =
    let P : List Walk → Type 0 = λ ws. slice_get ws c.number_of.result ≡ Some c.in_ok-walk.walk.now in
    let found = c.in_ok-walk.ensures.lookup in
    let is : P c.deref.result.now = slice_get_read c.deref.result.now (length c.deref.result.now) c.number_of.result c.in_ok-walk.walk.now refl found.3.0 found.1 in
    has_walk c.self.inside.in_use c.self.inside.walks.items c.args.self.now c.number_of.result c.in_ok-walk.walk.now c.args.pair c.as_slice.result.now c.self.view_is c.if-not-self.false (subst P c.deref.ensures.value is)
    (c.is_pair.ensures c.if-is_pair.true) c.as_slice.ensures.value
