use Rattle.std.proofs.Common.{◌+◌, ◌-◌, ◌≤◌, drop, length}
use Rattle.patch_base.specs.Texts.{lines}
use Rattle.outcome_table.proofs.Reading.{SoFar}
use Rattle.outcome_table.proofs.read.read_lines.Given as goal

abbrev pub invariant-loop-line : goal.invariant-loop-line
invariant-loop-line l =
    SoFar (record { kinds = l.kinds; factories = l.factories }) (lines (drop l.fn.start l.text)) (lines (drop l.at l.text)) l.number l.draft
    × (l.number ≤ l.at + 1)

abbrev pub decreases-loop-line : goal.decreases-loop-line
decreases-loop-line l = length l.text - l.at
