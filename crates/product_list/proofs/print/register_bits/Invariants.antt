use Rattle.std.proofs.Common.{◌≡◌, ◌+◌, ◌*◌, ◌^◌, ◌≤◌, drop}
use Rattle.source_model.specs.Circuits.{bits_in}
use Rattle.product_list.proofs.print.register_bits.Given as goal

abbrev pub invariant-loop-register : goal.invariant-loop-register
invariant-loop-register l = record {
  sum : l.bits + bits_in (drop l.register-index l.registers) ≡ bits_in l.registers;
  small : l.bits ≤ l.register-index * 2 ^ 32;
}
