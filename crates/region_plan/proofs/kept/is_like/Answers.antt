use Rattle.std.proofs.Common.{arith}
use Rattle.region_plan.proofs.Keeping.{same_more, same_truth}
use Rattle.region_plan.proofs.kept.is_like.Goals as goal

pub loop-cell-preserved : goal.loop-cell-preserved
loop-cell-preserved c =
    same_more c.args.layout.now c.args.ancilla.now c.loop-cell.cell c.is_ancilla.result _ c.loop-cell.invariant (omega (arith, c.loop-cell-test.true, c.size-cell-end.ensures.value, c.size.ensures.value, c.if-size-ancilla.false))
    c.is_ancilla.ensures (same_truth c.is_ancilla.result _ c.if-is_ancilla-ancilla.false)

pub returns : goal.returns
returns c _ = record {
  width = omega (arith, c.columns.ensures.value, c.if-columns.false);
  cells = (omega (arith, c.size.ensures.value, c.if-size-ancilla.false), λ x lt. c.loop-cell.invariant x (omega (arith, c.loop-cell-test.false, c.size-cell-end.ensures.value, lt)));
}
