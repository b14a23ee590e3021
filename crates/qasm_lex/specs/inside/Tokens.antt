-- What a head leaves room for.
use Rattle.std.specs.Prelude.{ℕ, ◌<◌, ◌≤◌}
use Rattle.qasm_lex.specs.declared.Head.{Head}
use Rattle.qasm_lex.specs.declared.Head.TheVariants as heads

-- a head has a byte at least, and no more than there are
abbrev pub IsWithin : Head → ℕ → Type 0
IsWithin heads.Feed len = 0 < len
IsWithin (heads.Blank n) len = (0 < n) × (n ≤ len)
IsWithin (heads.Token kind n) len = (0 < n) × (n ≤ len)
IsWithin heads.Bad len = Unit {0}
