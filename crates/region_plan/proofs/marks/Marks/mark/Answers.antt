use Rattle.std.proofs.Common.{◌≡◌, Bool, true, List, slice_set, subst}
use Rattle.region_plan.proofs.Marking.{marked}
use Rattle.region_plan.proofs.marks.Marks.mark.Goals as goal

pub returns : goal.returns
returns c =
    let P : List Bool → Type 0 = λ xs. Rattle.region_plan.specs.contracts.marks.Marks.the_view (record { numbers = Rattle.std.specs.Vec.with_item c.self.inside.numbers c.args.cell c.self.inside.latest; latest = c.self.inside.latest }) ≡ slice_set xs c.args.cell true in
    subst P c.self.view_is (marked c.self.inside.numbers.items c.self.inside.latest c.args.cell)
