use Rattle.std.proofs.Common.{◌≤◌}
use Rattle.std.specs.Prelude.{flat_map}
use Rattle.slice_write.specs.Slices.{upto}
use Rattle.patch_base.specs.Passes.{Passes}
use Rattle.slice_write.specs.inside.Pages.{IsDrawn, page_at}
use Rattle.slice_write.proofs.text.put_pages.Given as goal

abbrev pub invariant-loop-n : goal.invariant-loop-n
invariant-loop-n g l = record {
  counts : g.O.Sink.faults l.initial.out ≤ g.O.Sink.faults l.out;
  passes : Passes (g.O.Sink.taken l.initial.out) (g.O.Sink.taken l.out) l.initial.pen l.pen (flat_map (page_at l.layout l.pages) (upto l.n));
  drawn : IsDrawn l.layout l.drawing;
}
