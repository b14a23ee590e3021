use Rattle.std.proofs.Common.{◌≡◌, ◌-◌, ◌≤◌, length, false}
use Rattle.side_by_side.specs.Places.{fill}
use Rattle.side_by_side.specs.inside.Cut.{cut}
use Rattle.side_by_side.proofs.place.Place.pad.Given as goal

abbrev pub invariant-loop-q : goal.invariant-loop-q
invariant-loop-q l = record {
  sign : l.padded.sign ≡ false;
  letters : l.padded.letters ≡ fill l.self.before l.self.after (cut l.from l.axis.letters);
  within : l.from ≤ length l.axis.letters;
}

abbrev pub decreases-loop-q : goal.decreases-loop-q
decreases-loop-q l = length l.axis.letters - l.from
