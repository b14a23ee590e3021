use Rattle.std.proofs.Common.{◌≡◌, ◌++◌}
use Rattle.std.specs.List.{range_with_len, flat_map}
use Rattle.qasm_expand.specs.Flats.{applied, calls_of}
use Rattle.qasm_expand.proofs.push.push_applications.Given as goal

abbrev pub invariant-loop-i : goal.invariant-loop-i
invariant-loop-i l = l.flats.items ≡ l.fn.flats.items ++ flat_map (applied (calls_of l.gates) l.gate l.args) (range_with_len 0 l.i)
