use Rattle.std.proofs.Common.{◌≡◌, ◌+◌, ◌++◌, length, take}
use Rattle.std.specs.Prelude.{flat_map}
use Rattle.pauli_product.specs.Spelling.{letter_text}
use Rattle.schedule_text.proofs.write.put_axis.Given as goal

abbrev pub invariant-loop-q : goal.invariant-loop-q
invariant-loop-q l = record {
  text : l.pen ≡ l.initial.pen ++ flat_map letter_text (take l.q l.axis.letters);
  few : length l.pen ≡ length l.initial.pen + l.q;
}
