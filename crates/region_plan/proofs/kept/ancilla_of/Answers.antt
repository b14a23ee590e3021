use Rattle.std.proofs.Common.{◌+◌, Bool, List, subst, sym}
use Rattle.region_plan.specs.inside.Kept.{AncillaTo}
use Rattle.region_plan.proofs.Keeping.{ancilla_more}
use Rattle.region_plan.proofs.kept.ancilla_of.Goals as goal

pub loop-cell-preserved : goal.loop-cell-preserved
loop-cell-preserved c =
    let P : List Bool → Type 0 = λ xs. AncillaTo c.args.layout.now (c.loop-cell.cell + 1) xs in
    subst P (sym c.in_ok-push.ensures.items) (ancilla_more c.args.layout.now c.loop-cell.ancilla.items c.loop-cell.cell c.is_ancilla.result c.loop-cell.invariant c.is_ancilla.ensures)
