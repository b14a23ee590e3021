use Rattle.std.proofs.Common.{◌==◌, Bool, List, length, ap, arith}
use Rattle.std.proofs.lemmas.List.{length-map}
use Rattle.region_plan.proofs.Marking.{cleared}
use Rattle.region_plan.proofs.marks.Marks.clear.Goals as goal

pub returns : goal.returns
returns c =
    let sizes = ap (λ (xs : List Bool). length xs) c.self.view_is in
    cleared c.next_number-self-inside.new.numbers.items c.next_number-self-inside.result (length c.args.self.now) c.next_number-self-inside.ensures.above
    (omega (arith, sizes, c.next_number-self-inside.ensures.sizes, length-map c.self.inside.numbers.items (λ x. x == c.self.inside.latest)))
