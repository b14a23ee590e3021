use Rattle.patch_layout.proofs.Checking.{UpTo}
use Rattle.patch_layout.proofs.checker.bad_touch.Given as goal

abbrev pub invariant-loop-qubit : goal.invariant-loop-qubit
invariant-loop-qubit l = UpTo l.layout l.cells l.touches l.axis.letters l.qubit l.place
