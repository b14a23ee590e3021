use Rattle.patch_layout.proofs.Checking.{PatchedTo}
use Rattle.patch_layout.proofs.checker.is_patched.Given as goal

abbrev pub invariant-loop-qubit : goal.invariant-loop-qubit
invariant-loop-qubit l = PatchedTo l.layout l.axis.letters l.qubit
