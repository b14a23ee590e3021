use Rattle.std.proofs.Common.{◌≡◌, ◌+◌, ◌*◌, ◌≤◌, length, drop}
use Rattle.patch_layout.specs.Region.{sides_from}
use Rattle.patch_layout.proofs.checker.side_count.Given as goal

abbrev pub invariant-loop-qubit : goal.invariant-loop-qubit
invariant-loop-qubit l = (l.count ≤ 2 * l.qubit) × (l.count + length (sides_from l.qubit (drop l.qubit l.axis.letters)) ≡ length (sides_from 0 l.axis.letters))
