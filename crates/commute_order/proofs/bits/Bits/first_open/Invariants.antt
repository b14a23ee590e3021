use Rattle.std.proofs.Common.{ℕ, ◌*◌, ◌<◌}
use Rattle.commute_order.proofs.BitLists.{BitOpen}
use Rattle.commute_order.proofs.bits.Bits.first_open.Given as goal

-- no bit of the words so far is open
abbrev pub invariant-loop-k : goal.invariant-loop-k
invariant-loop-k l = (j : ℕ) → j < 64 * l.k → BitOpen l.self-inside.words.items l.done-inside.words.items j → ⊥
