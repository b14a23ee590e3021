use Rattle.std.proofs.Common.{◌≡◌, vec_len}
use Rattle.live_readout.proofs.carry.gates.Given as goal

abbrev pub invariant-loop-i : goal.invariant-loop-i
invariant-loop-i l = vec_len l.gates ≡ l._i
