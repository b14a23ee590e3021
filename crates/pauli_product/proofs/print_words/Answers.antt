use Rattle.std.proofs.Common.{arith}
use Rattle.pauli_product.proofs.Masks.{print_more}
use Rattle.pauli_product.proofs.print_words.Goals as goal

pub loop-word-preserved : goal.loop-word-preserved
loop-word-preserved c = record {
  text = print_more _ _ _ _ _ _ _ _ c.loop-word-test.true c.min-count.ensures c.loop-word.invariant.text c.print_letters.ensures.text;
  room = omega (arith, c.print_letters.ensures.len, c.print_letters.ensures.capacity, c.loop-word.invariant.room, c.min-count.ensures);
}
