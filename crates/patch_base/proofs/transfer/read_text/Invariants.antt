use Rattle.std.proofs.Common.{◌≡◌, ℕ, ◌+◌, ◌-◌, ◌≤◌, List, length, take, IfSome}
use Rattle.patch_base.proofs.transfer.read_text.Given as goal

abbrev pub invariant-loop-piece : goal.invariant-loop-piece
invariant-loop-piece g l = record {
  told : (n : List ℕ) → g.S.Shelf.tells l.shelf n ≡ g.S.Shelf.tells l.fn.shelf n;
  counts : (n : List ℕ) → g.S.Shelf.faults l.fn.shelf n ≤ g.S.Shelf.faults l.shelf n;
  within : length l.text.items ≤ l.limit + 1;
  text : IfSome (g.S.Shelf.tells l.fn.shelf l.name) (λ bytes. (l.text.items ≡ take (length l.text.items) bytes) × (length l.text.items ≤ length bytes));
}

abbrev pub decreases-loop-piece : goal.decreases-loop-piece
decreases-loop-piece g l = l.limit + 1 - length l.text.items
