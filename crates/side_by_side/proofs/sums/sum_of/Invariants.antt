use Rattle.std.proofs.Common.{◌≡◌, take}
use Rattle.side_by_side.specs.Joined.{IsWithin, sums_of}
use Rattle.side_by_side.proofs.sums.sum_of.Given as goal

abbrev pub invariant-loop-program : goal.invariant-loop-program
invariant-loop-program l = record {
  sums : l.so_far ≡ sums_of (take l.program l.circuits);
  within : IsWithin l.so_far;
}
