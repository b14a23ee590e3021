use Rattle.std.proofs.Common.{◌≤◌}
use Rattle.std.specs.Prelude.{flat_map}
use Rattle.slice_write.specs.Slices.{upto}
use Rattle.patch_base.specs.Passes.{Passes}
use Rattle.slice_write.specs.Pictures.{piece, nobody}
use Rattle.slice_write.proofs.picture.put_picture.Given as goal

abbrev pub invariant-loop-cell : goal.invariant-loop-cell
invariant-loop-cell g l = record {
  counts : g.O.Sink.faults l.initial.out ≤ g.O.Sink.faults l.out;
  passes : Passes (g.O.Sink.taken l.initial.out) (g.O.Sink.taken l.out) l.initial.pen l.pen (flat_map (piece l.layout nobody) (upto l.cell));
}
