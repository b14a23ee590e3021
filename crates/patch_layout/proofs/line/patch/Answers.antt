use Rattle.patch_layout.proofs.Spelled.{patch_high}
use Rattle.patch_layout.proofs.line.patch.Goals as goal

pub returns-then-qubit-ge1024-clause-other : goal.returns-then-qubit-ge1024-clause-other
returns-then-qubit-ge1024-clause-other c =
    patch_high c.args.words.now c.number.new.words c.in_ok-qubit.qubit c.in_ok-qubit.ensures.value.1 c.in_ok-qubit.ensures.value.0 c.if-qubit-ge1024.true
