use Rattle.std.proofs.Common.{◌≡◌, ◌<◌, length, arith}
use Rattle.pauli_product.proofs.Masks.{phase_step, product_step}
use Rattle.pauli_product.proofs.multiply.Goals as goal

pub loop-i-preserved : goal.loop-i-preserved
loop-i-preserved c =
    let within : c.loop-i.i < length c.loop-i.left = omega (arith, c.loop-i.auto.left, c.loop-i-test.true) in
    let equal : length c.args.right.now ≡ length c.loop-i.left = omega (arith, c.loop-i.auto.left, c.requires.equal) in
    record {
      letters = product_step _ _ _ _ _ _ _ within equal c.times-sum.ensures.letters c.loop-i.invariant.letters;
      power = phase_step _ _ _ _ _ _ _ _ _ within equal c.times-sum.ensures.power c.loop-i.invariant.power;
      small = omega (arith, c.times-sum.ensures.few, c.loop-i.invariant.small);
    }
