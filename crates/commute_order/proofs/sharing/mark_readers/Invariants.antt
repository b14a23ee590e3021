use Rattle.std.proofs.Common.{◌≡◌, ℕ, ◌<◌, ◌≤◌, ◌||◌, length}
use Rattle.commute_order.specs.declared.Uses.{Uses}
use Rattle.commute_order.specs.Sharing.{mark}
use Rattle.commute_order.specs.inside.Sharing.{IsTriangle}
use Rattle.commute_order.proofs.SharingLaws.{shared_by}
use Rattle.commute_order.proofs.sharing.mark_readers.Given as goal

abbrev pub invariant-loop-r : goal.invariant-loop-r
invariant-loop-r l = record {
  size : length l.rows ≡ length l.fn.rows;
  long : IsTriangle l.rows;
  marks : (p j : ℕ) (d : Uses) → j ≤ p → p < length l.uses → mark l.rows p j ≡ (mark l.fn.rows p j || shared_by l.uses d l.r p j);
}
