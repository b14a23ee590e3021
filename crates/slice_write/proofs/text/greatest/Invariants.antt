use Rattle.std.proofs.Common.{◌≡◌, take}
use Rattle.slice_write.specs.Slices.{greatest}
use Rattle.slice_write.proofs.text.greatest.Given as goal

abbrev pub invariant-loop-slice : goal.invariant-loop-slice
invariant-loop-slice l = l.greatest ≡ greatest (take l.slice-index l.slices)
