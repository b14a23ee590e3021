use Rattle.std.proofs.Common.{◌≡◌, ℕ, ◌+◌, ◌≤◌, false, List, [], length, take, get_or}
use Rattle.pauli_product.specs.declared.Letter.TheVariants.{X, Z}
use Rattle.pauli_product.specs.Signed.{Signed, plus}
use Rattle.commute_order.specs.inside.Columns.{IsColumns}
use Rattle.commute_order.proofs.ColumnLaws.{odd}
use Rattle.commute_order.proofs.columns.mark_clashes.Given as goal

abbrev pub invariant-loop-q : goal.invariant-loop-q
invariant-loop-q l = record {
  size : length l.row ≡ l.p + 1;
  marks : (ps : List Signed) (j : ℕ) → IsColumns X ps (l.p + 1) (length l.product.letters) l.len l.x → IsColumns Z ps (l.p + 1) (length l.product.letters) l.len l.z → length (get_or ps j (plus [])).letters ≡ length l.product.letters → j ≤ l.p → get_or l.row j false ≡ odd (take l.q (get_or ps j (plus [])).letters) (take l.q l.product.letters);
}
