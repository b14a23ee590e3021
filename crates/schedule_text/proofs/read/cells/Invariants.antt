use Rattle.std.proofs.Common.{length}
use Rattle.schedule_text.proofs.Rising.{IsSoFar}
use Rattle.schedule_text.proofs.read.cells.Given as goal

abbrev pub invariant-loop-word : goal.invariant-loop-word
invariant-loop-word l = IsSoFar l.initial.words l.words l.cells l.least

abbrev pub decreases-loop-word : goal.decreases-loop-word
decreases-loop-word l = length l.words
