use Rattle.std.proofs.Common.{◌≡◌, ◌++◌, map, take}
use Rattle.side_by_side.specs.Joined.{named, register_at}
use Rattle.side_by_side.proofs.joining.push_registers.Given as goal

abbrev pub invariant-loop-register : goal.invariant-loop-register
invariant-loop-register l = l.into ≡ l.initial.into ++ map (register_at l.bit (named l.program)) (take l.register-index l.registers)
