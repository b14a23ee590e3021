use Rattle.std.proofs.Common.{◌≡◌, ◌++◌, take}
use Rattle.std.specs.List.{flat_map}
use Rattle.product_list.specs.Printed.{register_text}
use Rattle.product_list.proofs.print.print_registers.Given as goal

abbrev pub invariant-loop-register : goal.invariant-loop-register
invariant-loop-register l = l.into.items ≡ l.fn.into.items ++ flat_map register_text (take l.register-index l.registers)
