use Rattle.std.proofs.Common.{◌≡◌, ℕ, ◌+◌, ◌-◌, ◌<◌, ◌≤◌, length, get_or, vec_len}
use Rattle.std.specs.Prelude.{vec_capacity}
use Rattle.pauli_product.specs.Signed.{Signed}
use Rattle.frame_table.specs.Images.{alone}
use Rattle.frame_table.proofs.letters_alone.Given as goal

abbrev pub invariant-loop-q : goal.invariant-loop-q
invariant-loop-q l = record {
  size : length l.products.items ≡ l.q;
  images : (k : ℕ) (d : Signed) → k < l.q → get_or l.products.items k d ≡ alone l.qubits k l.letter;
  room : vec_len l.products + (l.qubits - l.q) ≤ vec_capacity l.products;
}
