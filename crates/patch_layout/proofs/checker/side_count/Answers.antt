use Rattle.std.proofs.Common.{arith}
use Rattle.patch_layout.proofs.Checking.{count_more}
use Rattle.patch_layout.proofs.checker.side_count.Goals as goal

pub loop-qubit-preserved : goal.loop-qubit-preserved
loop-qubit-preserved c =
    let e = count_more c.args.axis.now.letters c.loop-qubit.qubit c.letter.result c.letter.ensures in
    let v = c.sides_of_letter-count.ensures.value c.loop-qubit.qubit in
    (omega (arith, c.loop-qubit.invariant.0), omega (arith, c.loop-qubit.invariant.1))
