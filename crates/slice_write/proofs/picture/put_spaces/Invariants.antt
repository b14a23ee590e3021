use Rattle.std.proofs.Common.{◌≡◌, ◌++◌, ◌+◌, length}
use Rattle.std.specs.Prelude.{replicate}
use Rattle.slice_write.proofs.picture.put_spaces.Given as goal

abbrev pub invariant-spaces : goal.invariant-spaces
invariant-spaces l = (l.pen ≡ l.initial.pen ++ replicate l.counter 32) × (length l.pen ≡ length l.initial.pen + l.counter)
