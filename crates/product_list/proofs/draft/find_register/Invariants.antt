use Rattle.std.proofs.Common.{◌≡◌, drop}
use Rattle.product_list.specs.ListText.{named}
use Rattle.product_list.proofs.draft.find_register.Given as goal

abbrev pub invariant-loop-register : goal.invariant-loop-register
invariant-loop-register l = named l.registers l.name ≡ named (drop l.register-index l.registers) l.name
