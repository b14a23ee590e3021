use Rattle.std.proofs.Common.{◌≡◌, ◌++◌, map}
use Rattle.std.specs.List.{range_with_len}
use Rattle.qasm_expand.specs.Flats.{conditional}
use Rattle.qasm_expand.proofs.push.push_conditionals.Given as goal

abbrev pub invariant-loop-i : goal.invariant-loop-i
invariant-loop-i l = l.flats.items ≡ l.fn.flats.items ++ map (conditional l.first l.size l.value l.gate l.arg) (range_with_len 0 l.i)
