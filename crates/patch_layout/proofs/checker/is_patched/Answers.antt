use Rattle.std.proofs.Common.{arith}
use Rattle.patch_layout.proofs.Checking.{patched_more, patched_whole}
use Rattle.patch_layout.proofs.checker.is_patched.Goals as goal

pub loop-qubit-preserved : goal.loop-qubit-preserved
loop-qubit-preserved c =
    patched_more c.args.layout.now c.args.axis.now.letters c.loop-qubit.qubit c.letter.result c.loop-qubit.invariant c.letter.ensures (c.letter_patched.ensures.0 c.if-not-letter_patched.false)

pub returns : goal.returns
returns c = patched_whole c.args.layout.now c.args.axis.now.letters c.loop-qubit.qubit (omega arith) c.loop-qubit.invariant
