use Rattle.std.proofs.Common.{◌≡◌, ◌≤◌, ◌++◌, List}
use Rattle.std.specs.Prelude.{flat_map}
use Rattle.board_core.specs.declared.Noted.{Noted}
use Rattle.patch_base.specs.Passes.{Passes}
use Rattle.schedule_text.specs.inside.Pens.{entry_text}
use Rattle.schedule_text.proofs.write.put_entries.Given as goal

abbrev pub invariant-loop-noted : goal.invariant-loop-noted
invariant-loop-noted g l = record {
  counts : g.O.Sink.faults l.initial.out ≤ g.O.Sink.faults l.out;
  passes : (done : List Noted) × ((done ++ l.noted-iterator ≡ l.history) × Passes (g.O.Sink.taken l.initial.out) (g.O.Sink.taken l.out) l.initial.pen l.pen (flat_map entry_text done));
}
