use Rattle.std.proofs.Common.{◌≡◌, ◌++◌, length}
use Rattle.arrival_line.specs.Messages.{arrivals, handed_back}
use Rattle.arrival_line.proofs.gather.take_left.Given as goal

abbrev pub decreases-loop-arrival : goal.decreases-loop-arrival
decreases-loop-arrival g l = length (g.R.Readout.left l.readout)

abbrev pub invariant-loop-arrival : goal.invariant-loop-arrival
invariant-loop-arrival g l = l.kept.items ++ g.R.Readout.left l.readout ≡ (l.fn.kept.items ++ arrivals (handed_back l.fn.back)) ++ g.R.Readout.left l.fn.readout
