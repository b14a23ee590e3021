use Rattle.std.proofs.Common.{arith}
use Rattle.pauli_product.proofs.Masks.{print_step}
use Rattle.pauli_product.proofs.print_letters.Goals as goal

pub loop-i-preserved : goal.loop-i-preserved
loop-i-preserved c = record {
  text = print_step _ _ _ _ _ _ _ c.letter.ensures c.byte.ensures c.loop-i.invariant.text c.push_reserved.ensures.items;
  len = omega (arith, c.push_reserved.ensures.len, c.loop-i.invariant.len);
  capacity = omega (arith, c.push_reserved.ensures.capacity, c.loop-i.invariant.capacity);
}
