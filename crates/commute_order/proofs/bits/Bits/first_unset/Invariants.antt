use Rattle.commute_order.specs.inside.Words.{IsSetTo}
use Rattle.commute_order.proofs.bits.Bits.first_unset.Given as goal

-- what comes before is set
abbrev pub invariant-loop-at : goal.invariant-loop-at
invariant-loop-at l = IsSetTo l.at l.self
