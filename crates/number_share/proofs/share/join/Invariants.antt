use Rattle.std.proofs.Common.{◌≡◌, [], length, All}
use Rattle.number_share.specs.Hands.{Owner}
use Rattle.number_share.proofs.Ends.{StandsFor}
use Rattle.number_share.proofs.share.join.Given as goal

abbrev pub invariant-loop-hand : goal.invariant-loop-hand
invariant-loop-hand l = record {
  seat : (l.seat.table_id ≡ l.core.table_id) × (l.seat.me.1 ≡ []);
  hands : All (λ (h : Owner). h.share ≡ l.core.table_id) l.hands.items;
  stands : StandsFor l.fn.hands.items l.hands.items l.seat.me.0;
}

abbrev pub decreases-loop-hand : goal.decreases-loop-hand
decreases-loop-hand l = length l.hands.items
