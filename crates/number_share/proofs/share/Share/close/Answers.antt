use Rattle.std.proofs.Common.{ℕ, ap, ◌∙◌, subst, sym, arith}
use Rattle.number_share.specs.Hands.{NamedShare}
use Rattle.number_share.specs.inside.Hands.{Drawn}
use Rattle.number_share.proofs.Ends.{closes}
use Rattle.number_share.proofs.share.Share.close.Goals as goal

pub overflow_cast-result : goal.overflow_cast-result
overflow_cast-result c =
    let shared = c.self.inside.table.shared in
    let owners = c.requires.all ∙ sym (ap (λ (s : NamedShare). s.owners) c.self.view_is) in
    let ended = closes shared.key.numbers shared.key.owners c.args.hands.items _ _ c.join-seat.result.id c.word-next.result c.join-seat.result.me.0 owners c.join-seat.ensures.all c.close_with-closed.ensures.values.2 c.word-next.ensures in
    omega (arith, ended.1)

pub returns : goal.returns
returns c =
    let shared = c.self.inside.table.shared in
    let owners = c.requires.all ∙ sym (ap (λ (s : NamedShare). s.owners) c.self.view_is) in
    let ended = closes shared.key.numbers shared.key.owners c.args.hands.items _ _ c.join-seat.result.id c.word-next.result c.join-seat.result.me.0 owners c.join-seat.ensures.all c.close_with-closed.ensures.values.2 c.word-next.ensures in
    subst (λ (n : ℕ). Drawn c.args.hands.items n c.word-next.result) (c.self.invariant.2 ∙ ap (λ (s : NamedShare). s.numbers) c.self.view_is) ended.0
