use Rattle.std.proofs.Common.{◌≡◌, ℕ, ◌<◌, ◌≤◌, length, get_or}
use Rattle.number_share.proofs.share.Hand.put.Given as goal

abbrev pub invariant-loop-at : goal.invariant-loop-at
invariant-loop-at l = record {
  inside : l.at < length l.self-inside.held.items;
  before : (k : ℕ) × (k ≤ l.at) × (get_or l.self-inside.held.items k l.n ≡ l.n);
}

abbrev pub decreases-loop-at : goal.decreases-loop-at
decreases-loop-at l = l.at
