use Rattle.std.proofs.Common.{◌≡◌, ◌+◌, ◌≤◌, length}
use Rattle.source_model.specs.Circuits.{bits_in}
use Rattle.source_model.proofs.Playing.{Reached}
use Rattle.source_model.proofs.plain.play.Given as goal

abbrev pub invariant-loop-item : goal.invariant-loop-item
invariant-loop-item l = record {
  reached : Reached l.circuit.qubits l.circuit.items l.given l.axes.items l.run.turns.items l.run.bits.items l.item-index l.next;
  count : length l.run.bits.items ≡ bits_in l.circuit.registers + l.circuit.hidden;
  few : l.next ≤ l.item-index;
}
