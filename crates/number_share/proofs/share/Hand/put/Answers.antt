use Rattle.std.proofs.Common.{◌≡◌, ℕ, get_or, ap, sym, ◌∙◌, subst}
use Rattle.number_share.specs.Hands.{Owner, putting}
use Rattle.number_share.proofs.Resting.{rests_put}
use Rattle.number_share.proofs.share.Hand.put.Goals as goal

pub invariant_of-self : goal.invariant_of-self
invariant_of-self c =
    let here : get_or c.self.inside.held.items c.loop-at.at c.args.n ≡ c.args.n = subst (λ (x : ℕ). get_or c.self.inside.held.items c.loop-at.at x ≡ x) c.loop-at-test.false (sym c.index.ensures) in
    let put = rests_put _ c.args.n c.loop-at.at _ _ _ _ _ c.self.invariant c.loop-at.invariant.inside here in
    rw (c.remove.ensures.items, c.remove.ensures.capacity, c.push_back_reserved.ensures.items, c.push_back_reserved.ensures.capacity) put.0

pub returns : goal.returns
returns c =
    let here : get_or c.self.inside.held.items c.loop-at.at c.args.n ≡ c.args.n = subst (λ (x : ℕ). get_or c.self.inside.held.items c.loop-at.at x ≡ x) c.loop-at-test.false (sym c.index.ensures) in
    let put = rests_put _ c.args.n c.loop-at.at _ _ _ _ _ c.self.invariant c.loop-at.invariant.inside here in
    let held = c.remove.ensures.items ∙ put.2 in
    let left = c.push_back_reserved.ensures.items in
    (λ i. record { share = c.self.inside.seat.table_id; numbers = c.self.inside.seat.me.0.numbers; past = c.self.inside.seat.me.0.past; held = held i; left = left i }) ∙ ap (λ (h : Owner). putting h c.args.n) c.self.view_is
