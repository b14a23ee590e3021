use Rattle.std.proofs.Common.{ℕ, List, Contains, ap, subst}
use Rattle.number_share.specs.Hands.{Owner}
use Rattle.number_share.proofs.Resting.{rests_retaken, apart}
use Rattle.number_share.proofs.share.Hand.take_again.Goals as goal

pub invariant_of-self-2 : goal.invariant_of-self-2
invariant_of-self-2 c =
    let popped = c.in_ok-number.ensures in
    rw (c.push_reserved.ensures.items, c.push_reserved.ensures.capacity, popped.capacity) (rests_retaken _ _ _ _ _ _ _ _ c.self.invariant popped.items)

pub returns-clause-once : goal.returns-clause-once
returns-clause-once c =
    let popped = c.in_ok-number.ensures in
    subst (λ (l : List ℕ). ¬ (Contains l c.in_ok-number.number)) (ap (λ (h : Owner). h.held) c.self.view_is) (apart _ _ _ _ _ _ _ (rests_retaken _ _ _ _ _ _ _ _ c.self.invariant popped.items))
