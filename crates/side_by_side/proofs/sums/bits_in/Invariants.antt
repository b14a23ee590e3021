use Rattle.std.proofs.Common.{◌≡◌, ◌+◌, ◌*◌, ◌^◌, ◌≤◌, drop}
use Rattle.source_model.specs.Circuits.{bits_in}
use Rattle.side_by_side.proofs.sums.bits_in.Given as goal

abbrev pub invariant-loop-register : goal.invariant-loop-register
invariant-loop-register l = record {
  sum : l.bits + bits_in (drop l.register-index l.registers) ≡ bits_in l.registers;
  small : l.bits ≤ l.register-index * 2 ^ 32;
}
