use Rattle.std.proofs.Common.{arith}
use Rattle.patch_layout.proofs.Checking.{bad_letter, up_to_more, port_done}
use Rattle.patch_layout.proofs.checker.bad_touch.Goals as goal

pub returns-in-Some : goal.returns-in-Some
returns-in-Some c =
    bad_letter c.args.layout.now c.args.cells.now c.args.touches.now c.args.axis.now c.args.port c.loop-qubit.qubit c.loop-qubit.place c.in-Some.bad c.letter-letter.result c.loop-qubit.invariant c.letter-letter.ensures c.in-Some.ensures

pub loop-qubit-preserved : goal.loop-qubit-preserved
loop-qubit-preserved c =
    up_to_more c.args.layout.now c.args.cells.now c.args.touches.now c.args.axis.now.letters c.loop-qubit.qubit c.loop-qubit.place c.sides_of_letter-place.result c.letter-letter.result c.loop-qubit.invariant c.letter-letter.ensures
    c.in_default.ensures (c.sides_of_letter-place.ensures.value c.loop-qubit.qubit) c.sides_of_letter-place.ensures.few

pub returns : goal.returns
returns c =
    port_done c.args.layout.now c.args.cells.now c.args.touches.now c.args.axis.now c.loop-qubit.qubit c.loop-qubit.place c.args.port c.bad_at_port.result c.loop-qubit.invariant (omega arith) c.bad_at_port.ensures
