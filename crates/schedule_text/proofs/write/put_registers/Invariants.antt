use Rattle.std.proofs.Common.{◌≤◌, take}
use Rattle.std.specs.Prelude.{flat_map}
use Rattle.schedule_text.specs.Text.{bit_in}
use Rattle.patch_base.specs.Passes.{Passes}
use Rattle.schedule_text.specs.inside.Pens.{register_text}
use Rattle.schedule_text.proofs.write.put_registers.Given as goal

abbrev pub invariant-loop-register : goal.invariant-loop-register
invariant-loop-register g l = record {
  counts : g.O.Sink.faults l.initial.out ≤ g.O.Sink.faults l.out;
  passes : Passes (g.O.Sink.taken l.initial.out) (g.O.Sink.taken l.out) l.initial.pen l.pen (flat_map (register_text (bit_in l.bits)) (take l.register-index l.registers));
}
