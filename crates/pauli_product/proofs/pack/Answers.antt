use Rattle.pauli_product.proofs.Masks.{pack_step}
use Rattle.pauli_product.proofs.pack.Goals as goal

pub loop-i-preserved : goal.loop-i-preserved
loop-i-preserved c = pack_step _ _ _ _ _ c.loop-i-test.true c.requires c.loop-i.invariant c.with_letter-word.ensures
