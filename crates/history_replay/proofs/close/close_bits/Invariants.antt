use Rattle.std.proofs.Common.{◌≡◌, ◌+◌, ◌++◌, ◌≤◌, length, take, drop}
use Rattle.schedule_text.specs.Text.{bits_text, bit_in}
use Rattle.history_replay.proofs.close.close_bits.Given as goal

abbrev pub invariant-loop-register : goal.invariant-loop-register
invariant-loop-register l = record {
  text_is : drop l.initial.at l.text ≡ bits_text (take l.register-index l.registers) (bit_in l.bits) ++ drop l.at l.text;
  at : l.at ≤ length l.text;
  line : l.line ≡ l.first + l.register-index;
}
