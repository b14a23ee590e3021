use Rattle.patch_layout.proofs.Opening.{MarksTo}
use Rattle.patch_layout.proofs.openness.ancilla_marks.Given as goal

abbrev pub invariant-loop-cell : goal.invariant-loop-cell
invariant-loop-cell l = MarksTo l.layout l.marks.items l.cell
