use Rattle.std.proofs.Common.{◌≡◌}
use Rattle.frame_table.specs.Images.{qubits}
use Rattle.frame_table.proofs.tests.agrees_with_the_plain_frame.Given as goal

abbrev pub invariant-loop : goal.invariant-loop
invariant-loop g l = qubits l.frame ≡ 2
