use Rattle.std.proofs.Common.{◌≤◌, length, take}
use Rattle.std.specs.Prelude.{flat_map}
use Rattle.patch_base.specs.Passes.{Passes}
use Rattle.schedule_text.specs.inside.Pens.{cell_word}
use Rattle.schedule_text.proofs.write.put_cells.Given as goal

abbrev pub invariant-loop-cell : goal.invariant-loop-cell
invariant-loop-cell g l = record {
  counts : g.O.Sink.faults l.initial.out ≤ g.O.Sink.faults l.out;
  passes : Passes (g.O.Sink.taken l.initial.out) (g.O.Sink.taken l.out) l.initial.pen l.pen (flat_map cell_word (take l.cell-index l.cells));
  room : length l.pen ≤ 8000;
}
