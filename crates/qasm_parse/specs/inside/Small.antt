-- Numbers of registers, which fit a word.
use Rattle.std.specs.Prelude.{◌+◌, ◌≤◌}
use Rattle.qasm_parse.specs.declared.known.Span.{Span}
use Rattle.qasm_parse.specs.declared.known.Meaning.{Meaning}
use Rattle.qasm_parse.specs.declared.known.Meaning.TheVariants.{Quantum, Classical, Gate}

abbrev pub IsSmallSpan : Span → Type 0
IsSmallSpan span = span.first + span.size ≤ 16384

abbrev pub IsSmall : Meaning → Type 0
IsSmall (Quantum span) = IsSmallSpan span
IsSmall (Classical span) = IsSmallSpan span
IsSmall (Gate called) = Unit {0}
