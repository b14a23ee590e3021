use Rattle.std.proofs.Common.{◌≡◌, ℕ, ◌<◌, ◌≤◌, get_or}
use Rattle.std.specs.Int.RustNames.{bit_xor}
use Rattle.commute_order.proofs.bits.flip_words.Given as goal

abbrev pub invariant-loop-k : goal.invariant-loop-k
invariant-loop-k l = record {
  done : (k : ℕ) → k < l.k → get_or l.words k 0 ≡ bit_xor (get_or l.fn.words k 0) (get_or l.other k 0);
  rest : (k : ℕ) → l.k ≤ k → get_or l.words k 0 ≡ get_or l.fn.words k 0;
}
