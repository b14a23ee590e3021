-- Registers whose bits are there.
use Rattle.std.specs.Prelude.{ℕ, ◌+◌, ◌≤◌}
use Rattle.source_model.specs.declared.Register.{Register}

-- the register's bits are among the first n
abbrev pub IsWithin : ℕ → Register → Type 0
IsWithin n r = r.first + r.size ≤ n
