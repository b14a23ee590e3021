use Rattle.std.proofs.Common.{◌≡◌, ◌++◌, map}
use Rattle.std.specs.List.{range_with_len}
use Rattle.qasm_expand.specs.Flats.{reset_at}
use Rattle.qasm_expand.proofs.push.push_resets.Given as goal

abbrev pub invariant-loop-i : goal.invariant-loop-i
invariant-loop-i l = l.flats.items ≡ l.fn.flats.items ++ map (reset_at l.arg) (range_with_len 0 l.i)
