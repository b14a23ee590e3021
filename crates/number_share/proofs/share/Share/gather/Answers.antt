use Rattle.std.proofs.Common.{◌≡◌, ℕ, ◌≤◌, min, flat_map, ap, ◌∙◌, arith}
use Rattle.number_share.specs.Hands.{NamedShare, Owner}
use Rattle.number_share.proofs.Ends.{gathered, answers}
use Rattle.number_share.proofs.share.Share.gather.Goals as goal

pub loop-number-preserved : goal.loop-number-preserved
loop-number-preserved c =
    let first : ℕ = min c.close-next.result c.self.inside.numbers in
    let inside : first ≤ c.loop-number.number = omega arith in
    gathered _ _ _ first c.loop-number.number c.loop-number.invariant c.in_ok-push.ensures.items inside

pub returns-clause-once : goal.returns-clause-once
returns-clause-once c =
    let end : c.loop-number.number ≡ c.self.inside.numbers = omega arith in
    let put = c.in_ok-left.ensures ∙ ap (flat_map (λ (h : Owner). h.left)) c.deref.ensures.value in
    (answers c.args.hands.items c.args.self.numbers c.self.inside.numbers c.close-next.result c.loop-number.number c.in_ok-left.left.items c.loop-number.left.items (ap (λ (s : NamedShare). s.numbers) c.self.view_is) c.close-next.ensures put c.loop-number.invariant end).0

pub returns-clause-left : goal.returns-clause-left
returns-clause-left c =
    let end : c.loop-number.number ≡ c.self.inside.numbers = omega arith in
    let put = c.in_ok-left.ensures ∙ ap (flat_map (λ (h : Owner). h.left)) c.deref.ensures.value in
    (answers c.args.hands.items c.args.self.numbers c.self.inside.numbers c.close-next.result c.loop-number.number c.in_ok-left.left.items c.loop-number.left.items (ap (λ (s : NamedShare). s.numbers) c.self.view_is) c.close-next.ensures put c.loop-number.invariant end).1
