use Rattle.std.proofs.Common.{arith, refl}
use Rattle.patch_layout.proofs.Opening.{served_more, served_whole, least_lacking, is_used}
use Rattle.patch_layout.proofs.openness.patch_missing.Goals as goal

pub returns-then-not-is_served : goal.returns-then-not-is_served
returns-then-not-is_served c =
    let lacks = c.is_served.ensures.lacks c.if-not-is_served.true in
    least_lacking c.args.layout.now c.args.used.now c.loop-qubit.qubit c.loop-qubit.invariant (is_used c.args.used.now c.loop-qubit.qubit _ _ (omega arith) lacks.0 refl) lacks.1

pub loop-qubit-preserved : goal.loop-qubit-preserved
loop-qubit-preserved c = served_more c.args.layout.now c.args.used.now c.loop-qubit.qubit _ _ c.loop-qubit.invariant (c.is_served.ensures.served c.if-not-is_served.false) refl

pub returns : goal.returns
returns c = served_whole c.args.layout.now c.args.used.now c.loop-qubit.qubit (omega arith) c.loop-qubit.invariant
