use Rattle.std.proofs.Common.{◌≡◌, map}
use Rattle.std.specs.List.{range_with_len}
use Rattle.live_readout.specs.Wanted.{wanted_at}
use Rattle.live_readout.proofs.wanted.wanted_of.Given as goal

abbrev pub invariant-loop-p : goal.invariant-loop-p
invariant-loop-p l = l.wanted.items ≡ map (wanted_at l.board) (range_with_len 0 l.p)
