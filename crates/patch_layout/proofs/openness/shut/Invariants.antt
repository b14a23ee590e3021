use Rattle.patch_layout.proofs.Opening.{OpenTo}
use Rattle.patch_layout.proofs.openness.shut.Given as goal

abbrev pub invariant-loop-qubit : goal.invariant-loop-qubit
invariant-loop-qubit l = OpenTo l.layout l.used l.qubit
