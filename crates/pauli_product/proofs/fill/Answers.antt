use Rattle.std.proofs.Common.{◌<◌, ◌*◌, ◌+◌, length, refl, arith}
use Rattle.pauli_product.proofs.Masks.{fill_step, fill_end}
use Rattle.pauli_product.proofs.fill.Goals as goal

pub loop-i-preserved : goal.loop-i-preserved
loop-i-preserved c =
    let within : c.loop-i.i < length c.loop-i.words = omega (arith, c.loop-i.auto.words, c.loop-i-test.true) in
    let tight : 64 * length c.loop-i.words < length c.args.letters.now + 64 = omega (arith, c.loop-i.auto.words, c.requires.tight) in
    fill_step _ _ _ _ _ _ within tight c.min-end.ensures refl c.pack.ensures c.loop-i.invariant

pub returns-clause-holds : goal.returns-clause-holds
returns-clause-holds c = (fill_end c.args.letters.now c.args.words.now c.loop-i.words c.loop-i.i c.requires c.loop-i.auto.words c.loop-i-test.false c.loop-i.auto.i-end c.loop-i.invariant).holds

pub returns-clause-letters : goal.returns-clause-letters
returns-clause-letters c = (fill_end c.args.letters.now c.args.words.now c.loop-i.words c.loop-i.i c.requires c.loop-i.auto.words c.loop-i-test.false c.loop-i.auto.i-end c.loop-i.invariant).letters
