use Rattle.std.proofs.Common.{◌≡◌, take}
use Rattle.qasm_expand.specs.Sound.{members}
use Rattle.rotation_list.proofs.reading.members.Given as goal

abbrev pub invariant-loop-register : goal.invariant-loop-register
invariant-loop-register l = l.members ≡ members (take l.register-index l.registers)
