use Rattle.std.proofs.Common.{◌≡◌, drop}
use Rattle.product_list.specs.Printed.{register_with}
use Rattle.product_list.proofs.print.register_with.Given as goal

abbrev pub invariant-loop-register : goal.invariant-loop-register
invariant-loop-register l = register_with l.registers l.bit ≡ register_with (drop l.register-index l.registers) l.bit
