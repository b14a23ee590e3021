use Rattle.std.proofs.Common.{◌≡◌, take}
use Rattle.live_readout.specs.Listed.{listed}
use Rattle.live_readout.proofs.listed.arrivals_of.Given as goal

abbrev pub invariant-loop-p : goal.invariant-loop-p
invariant-loop-p l = l.arrivals.items ≡ listed (take l.p l.given)
