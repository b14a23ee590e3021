use Rattle.std.proofs.Common.{◌≡◌, ℕ, ◌<◌, ◌≤◌, true, false, length, get_or}
use Rattle.layer_pass.proofs.draft.low_of.Given as goal

abbrev pub invariant-loop-j : goal.invariant-loop-j
invariant-loop-j l = record {
  size : length l.set ≡ l.n;
  has : (i : ℕ) → i < l.j → get_or l.layer i 0 ≤ l.row → get_or l.set i false ≡ true;
  lacks : (i : ℕ) → i < l.n → (i < l.j → l.row < get_or l.layer i 0) → get_or l.set i false ≡ false;
}
