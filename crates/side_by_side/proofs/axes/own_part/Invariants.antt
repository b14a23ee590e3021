use Rattle.std.proofs.Common.{◌≡◌, take, drop, false}
use Rattle.side_by_side.specs.inside.Cut.{cut}
use Rattle.side_by_side.proofs.axes.own_part.Given as goal

abbrev pub invariant-loop-q : goal.invariant-loop-q
invariant-loop-q l = record {
  sign : l.own.sign ≡ false;
  letters : l.own.letters ≡ cut l.q (take l.count (drop l.before l.axis.letters));
}
