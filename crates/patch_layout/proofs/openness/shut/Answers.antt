use Rattle.std.proofs.Common.{arith, refl}
use Rattle.patch_layout.proofs.Opening.{open_more, open_whole}
use Rattle.patch_layout.proofs.openness.shut.Goals as goal

pub loop-qubit-preserved : goal.loop-qubit-preserved
loop-qubit-preserved c = open_more c.args.layout.now c.args.used.now c.loop-qubit.qubit _ _ c.loop-qubit.invariant c.in_default.ensures refl

pub returns : goal.returns
returns c = open_whole c.args.layout.now c.args.used.now c.loop-qubit.qubit (omega arith) c.loop-qubit.invariant
