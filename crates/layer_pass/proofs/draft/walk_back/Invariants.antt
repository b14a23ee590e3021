use Rattle.std.proofs.Common.{◌≡◌, ℕ, ◌+◌, ◌<◌, ◌≤◌, length, get_or}
use Rattle.layer_pass.proofs.draft.walk_back.Given as goal

abbrev pub invariant-loop-k : goal.invariant-loop-k
invariant-loop-k l = record {
  within : l.p < length l.before;
  top : l.k ≡ length l.chain → l.p ≡ l.last;
  next : l.k < length l.chain → l.p ≡ get_or l.before (get_or l.chain l.k 0) 0;
  last : (i : ℕ) → l.k ≤ i → i + 1 ≡ length l.chain → get_or l.chain i 0 ≡ l.last;
  back : (i : ℕ) → l.k ≤ i → i + 1 < length l.chain → get_or l.chain i 0 ≡ get_or l.before (get_or l.chain (i + 1) 0) 0;
}
