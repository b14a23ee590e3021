use Rattle.std.proofs.Common.{arith}
use Rattle.pauli_product.proofs.Masks.{count_step}
use Rattle.pauli_product.proofs.clash_count.Goals as goal

pub loop-i-preserved : goal.loop-i-preserved
loop-i-preserved c = record {
  count = count_step _ _ _ _ _ _ _ _ c.loop-i-test.true c.requires.equal c.clashes-count.ensures.value c.loop-i.invariant.count;
  small = omega (arith, c.clashes-count.ensures.few, c.loop-i.invariant.small);
}
