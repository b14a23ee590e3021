use Rattle.std.proofs.Common.{◌≡◌, take, flat_map}
use Rattle.number_share.specs.Hands.{Owner}
use Rattle.number_share.proofs.share.put_back.Given as goal

abbrev pub invariant-loop-hand : goal.invariant-loop-hand
invariant-loop-hand l = l.put.items ≡ flat_map (λ (h : Owner). h.left) (take l.hand-index l.hands)
