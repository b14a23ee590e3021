use Rattle.std.proofs.Common.{◌≡◌, ℕ, ◌-◌, ◌<◌, ◌≤◌, List, [], length, get_or, None}
use Rattle.pauli_product.specs.Signed.{Signed}
use Rattle.commute_order.specs.declared.Uses.{Uses}
use Rattle.commute_order.specs.Commuting.{IsOrder}
use Rattle.layer_pass.specs.inside.Drafts.{first_clash_of}
use Rattle.layer_pass.specs.inside.Lows.{IsReach}
use Rattle.layer_pass.proofs.draft.search.Given as goal

abbrev pub invariant-loop-reach : goal.invariant-loop-reach
invariant-loop-reach l = record {
  open_sets : l.reach.from ≤ l.reach.to;
  to : l.reach.to ≤ length l.lows;
  next : l.reach.from < l.reach.to → (l.reach.from ≤ l.at) × (l.at < l.reach.to);
  below : l.reach.place.below ≤ length l.rows;
  earlier : l.reach.place.blocker ≤ l.p;
  end : l.reach.end ≤ length l.rows;
  told : (ps : List Signed) (us : List Uses) → IsOrder ps us l.order → ((k : ℕ) → l.top ≤ k → k < length l.rows → first_clash_of ps us l.p (get_or l.rows k []) ≡ None) → IsReach ps us l.layer l.rows l.p l.reach.place.below l.reach.place.blocker l.reach.end;
}

abbrev pub decreases-loop-reach : goal.decreases-loop-reach
decreases-loop-reach l = l.reach.to - l.reach.from
