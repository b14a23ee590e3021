use Rattle.std.proofs.Common.{rules, ◌≡◌, ◌<◌, ◌≤◌, length, ap, sym, ◌∙◌, subst, arith, ℕ, List, Contains}
use Rattle.number_share.specs.Hands.{NamedShare, Owner}
use Rattle.number_share.proofs.Resting.{rests_spent, rests_drawn, apart}
use Rattle.number_share.proofs.share.Hand.draw.Goals as goal

pub invariant_of-self : goal.invariant_of-self
invariant_of-self c =
    let same : c.self.inside.seat.me.0.numbers ≡ c.share.inside.numbers = ap (λ (h : Owner). h.numbers) c.self.view_is ∙ (c.requires.share.1 ∙ sym (ap (λ (s : NamedShare). s.numbers) c.share.view_is)) in
    let over : c.self.inside.seat.me.0.numbers ≤ c.draw-read.result = omega arith in
    rests_spent c.self.inside.seat.me _ c.draw-read.result _ _ _ _ _ c.self.invariant (ap (λ (h : Owner). h.past) c.self.view_is ∙ c.requires.unspent) c.draw-read.ensures.seat.1 over (c.draw-read.ensures.past over)

pub push_reserved-requires : goal.push_reserved-requires
push_reserved-requires c =
    let same : c.self.inside.seat.me.0.numbers ≡ c.share.inside.numbers = ap (λ (h : Owner). h.numbers) c.self.view_is ∙ (c.requires.share.1 ∙ sym (ap (λ (s : NamedShare). s.numbers) c.share.view_is)) in
    let under : c.draw-read.result < c.self.inside.seat.me.0.numbers = omega arith in
    let drawn = c.draw-read.ensures.drawn under in
    let room : length c.self.inside.held.items < _ = (rests_drawn c.self.inside.seat.me _ c.draw-read.result _ _ _ _ _ c.self.invariant c.draw-read.ensures.seat.1 under drawn.0 drawn.1).1 in
    search rules

pub invariant_of-self-2 : goal.invariant_of-self-2
invariant_of-self-2 c =
    let same : c.self.inside.seat.me.0.numbers ≡ c.share.inside.numbers = ap (λ (h : Owner). h.numbers) c.self.view_is ∙ (c.requires.share.1 ∙ sym (ap (λ (s : NamedShare). s.numbers) c.share.view_is)) in
    let under : c.draw-read.result < c.self.inside.seat.me.0.numbers = omega arith in
    let drawn = c.draw-read.ensures.drawn under in
    let rests = rests_drawn c.self.inside.seat.me _ c.draw-read.result _ _ _ _ _ c.self.invariant c.draw-read.ensures.seat.1 under drawn.0 drawn.1 in
    rw (c.push_reserved.ensures.items, c.push_reserved.ensures.capacity) rests.0

pub returns-clause-once : goal.returns-clause-once
returns-clause-once c =
    let same : c.self.inside.seat.me.0.numbers ≡ c.share.inside.numbers = ap (λ (h : Owner). h.numbers) c.self.view_is ∙ (c.requires.share.1 ∙ sym (ap (λ (s : NamedShare). s.numbers) c.share.view_is)) in
    let under : c.draw-read.result < c.self.inside.seat.me.0.numbers = omega arith in
    let drawn = c.draw-read.ensures.drawn under in
    let rests = rests_drawn c.self.inside.seat.me _ c.draw-read.result _ _ _ _ _ c.self.invariant c.draw-read.ensures.seat.1 under drawn.0 drawn.1 in
    subst (λ (l : List ℕ). ¬ (Contains l c.draw-read.result)) (ap (λ (h : Owner). h.held) c.self.view_is) (apart _ _ _ _ _ _ _ rests.0)
