use Rattle.std.proofs.Common.{◌≡◌, ℕ, ◌<◌, ◌≤◌, List, [], get_or, None}
use Rattle.pauli_product.specs.Signed.{Signed}
use Rattle.commute_order.specs.declared.Uses.{Uses}
use Rattle.commute_order.specs.Commuting.{IsOrder}
use Rattle.layer_pass.specs.inside.Drafts.{first_clash_of}
use Rattle.layer_pass.proofs.draft.place_between.Given as goal

abbrev pub invariant-loop-k : goal.invariant-loop-k
invariant-loop-k l = record {
  low : l.k ≤ l.end;
  silent : (ps : List Signed) (us : List Uses) → IsOrder ps us l.order → (m : ℕ) → l.k ≤ m → m < l.end → first_clash_of ps us l.p (get_or l.rows m []) ≡ None;
}

abbrev pub decreases-loop-k : goal.decreases-loop-k
decreases-loop-k l = l.k
