use Rattle.std.proofs.Common.{◌≡◌, ◌+◌, ◌-◌, ◌==◌}
use Rattle.pauli_product.specs.Bits.{number_of}
use Rattle.board_core.specs.inside.Bits.{value_in}
use Rattle.board_core.proofs.bits.spells.Given as goal

abbrev pub invariant-loop-at : goal.invariant-loop-at
invariant-loop-at l = (number_of (value_in l.bits) l.fn.first l.size == l.value) ≡ (number_of (value_in l.bits) l.at (l.fn.first + l.size - l.at) == l.rest)
