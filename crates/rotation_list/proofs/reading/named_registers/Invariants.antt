use Rattle.std.proofs.Common.{◌≡◌, map, take}
use Rattle.rotation_list.specs.Items.{register_in}
use Rattle.rotation_list.proofs.reading.named_registers.Given as goal

abbrev pub invariant-loop-d : goal.invariant-loop-d
invariant-loop-d l = l.registers.items ≡ map (register_in l.text) (take l.d-index l.declared)
