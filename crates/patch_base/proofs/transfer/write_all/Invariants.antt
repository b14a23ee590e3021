use Rattle.std.proofs.Common.{◌-◌, ◌≤◌, length, take}
use Rattle.patch_base.specs.Outside.{Grew}
use Rattle.patch_base.proofs.transfer.write_all.Given as goal

abbrev pub invariant-loop-written : goal.invariant-loop-written
invariant-loop-written g l = record {
  within : l.written ≤ length l.bytes;
  counts : g.O.Sink.faults l.initial.out ≤ g.O.Sink.faults l.out;
  grew : Grew (g.O.Sink.taken l.initial.out) (g.O.Sink.taken l.out) (take l.written l.bytes);
}

abbrev pub decreases-loop-written : goal.decreases-loop-written
decreases-loop-written g l = length l.bytes - l.written
