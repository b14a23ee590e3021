use Rattle.std.proofs.Common.{◌≡◌, ◌+◌, ◌-◌, ◌==◌, false, slice_index_or}
use Rattle.pauli_product.specs.Bits.{number_of}
use Rattle.source_model.proofs.plain.spells.Given as goal

-- the bits from here on are to spell what is left of the value
abbrev pub invariant-loop-i : goal.invariant-loop-i
invariant-loop-i l =
    (number_of (λ b. slice_index_or l.bits b false) l.first l.size == l.value) ≡ (number_of (λ b. slice_index_or l.bits b false) (l.first + l.i) (l.size - l.i) == l.rest)
