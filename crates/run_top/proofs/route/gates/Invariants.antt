use Rattle.std.proofs.Common.{◌≡◌, vec_len}
use Rattle.run_top.proofs.route.gates.Given as goal

abbrev pub invariant-loop-i : goal.invariant-loop-i
invariant-loop-i l = vec_len l.gates ≡ l._i
