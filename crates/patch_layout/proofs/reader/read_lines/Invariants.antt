use Rattle.std.proofs.Common.{◌+◌, ◌-◌, ◌≤◌, length, drop}
use Rattle.patch_base.specs.Texts.{lines}
use Rattle.patch_layout.specs.inside.Reading.{Keyed}
use Rattle.patch_layout.proofs.Bodies.{Reads}
use Rattle.patch_layout.proofs.reader.read_lines.Given as goal

abbrev pub invariant-loop-line : goal.invariant-loop-line
invariant-loop-line l = record {
  keyed : Keyed l.found.items l.qubits l.factories;
  reads : Reads (lines (drop l.fn.start l.text)) l.found.items (lines (drop l.at l.text)) l.number;
  steps : l.number ≤ l.at + 2;
}

abbrev pub decreases-loop-line : goal.decreases-loop-line
decreases-loop-line l = length l.text - l.at
