use Rattle.std.proofs.Common.{◌≡◌, ℕ, ◌+◌, ◌-◌, ◌<◌, ◌≤◌, not, [], length, get_or, vec_len, All}
use Rattle.std.specs.Prelude.{vec_capacity}
use Rattle.pauli_product.specs.declared.Letter.TheVariants.{X, Z}
use Rattle.pauli_product.specs.Signed.{plus, OfLength, commute}
use Rattle.commute_order.specs.inside.Columns.{IsColumns}
use Rattle.commute_order.specs.Sharing.{mark}
use Rattle.commute_order.proofs.clash_rows.Given as goal

abbrev pub invariant-loop-p : goal.invariant-loop-p
invariant-loop-p l = record {
  size : length l.rows.items ≡ l.p;
  long : (q : ℕ) → q < l.p → length (get_or l.rows.items q []) ≡ q + 1;
  marks : (q : ℕ) → q < l.p → (j : ℕ) → j ≤ q → mark l.rows.items q j ≡ not (commute (get_or l.products j (plus [])) (get_or l.products q (plus [])));
  room : vec_len l.rows + (length l.products - l.p) ≤ vec_capacity l.rows;
  qubits : length l.x.items ≡ l.qubits;
  all : All (OfLength l.qubits) l.products;
  x : IsColumns X l.products l.p l.qubits (length l.products) l.x.items;
  z : IsColumns Z l.products l.p l.qubits (length l.products) l.z.items;
}
