use Rattle.std.proofs.Common.{◌≡◌, ◌≤◌, ◌+◌, length, ℕ}
use Rattle.schedule_text.specs.Text.{digits, bit_in}
use Rattle.patch_base.specs.Passes.{Passes}
use Rattle.schedule_text.proofs.write.put_digits.Given as goal

abbrev pub invariant-loop-b : goal.invariant-loop-b
invariant-loop-b g l = record {
  counts : g.O.Sink.faults l.initial.out ≤ g.O.Sink.faults l.out;
  passes : (k : ℕ) × ((l.b + k ≡ l.first + l.size) × Passes (g.O.Sink.taken l.initial.out) (g.O.Sink.taken l.out) l.initial.pen l.pen (digits (bit_in l.bits) l.b k));
  room : length l.pen ≤ 8000;
  low : l.first ≤ l.b;
}
