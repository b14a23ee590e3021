use Rattle.std.proofs.Common.{◌≡◌, drop}
use Rattle.product_list.specs.Printed.{register_of}
use Rattle.product_list.proofs.print.register_of.Given as goal

abbrev pub invariant-loop-register : goal.invariant-loop-register
invariant-loop-register l = register_of l.registers l.first l.size ≡ register_of (drop l.register-index l.registers) l.first l.size
