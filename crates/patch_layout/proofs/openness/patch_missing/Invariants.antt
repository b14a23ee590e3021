use Rattle.patch_layout.proofs.Opening.{ServedTo}
use Rattle.patch_layout.proofs.openness.patch_missing.Given as goal

abbrev pub invariant-loop-qubit : goal.invariant-loop-qubit
invariant-loop-qubit l = ServedTo l.layout l.used l.qubit
