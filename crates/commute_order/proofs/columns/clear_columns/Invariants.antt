use Rattle.std.proofs.Common.{◌≡◌, ℕ, ◌+◌, ◌-◌, ◌<◌, ◌≤◌, false, [], length, get_or, replicate, vec_len}
use Rattle.std.specs.Prelude.{vec_capacity}
use Rattle.commute_order.proofs.columns.clear_columns.Given as goal

abbrev pub invariant-loop-q : goal.invariant-loop-q
invariant-loop-q l = record {
  size : length l.columns.items ≡ l._q;
  clear : (q : ℕ) → q < l._q → get_or l.columns.items q [] ≡ replicate l.len false;
  room : vec_len l.columns + (l.qubits - l._q) ≤ vec_capacity l.columns;
}
