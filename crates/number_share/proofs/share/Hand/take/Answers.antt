use Rattle.std.proofs.Common.{rules, refl}
use Rattle.number_share.specs.Hands.{draws}
use Rattle.number_share.proofs.Resting.{takes_ended, takes_again}
use Rattle.number_share.proofs.share.Hand.take.Goals as goal
use Rattle.number_share.proofs.share.Hand.take.Goals.{then-not-is_spent+in_default, else-not-is_spent}

pub returns-in-Some-clause-told : goal.returns-in-Some-clause-told
returns-in-Some-clause-told c =
    let drawn = c.in-Some.ensures.drawn in
    draws c.in-Some.number (c.is_spent.ensures.unspent c.if-not-is_spent.true) drawn.0 refl drawn.1

pub returns-clause-told : goal.returns-clause-told
returns-clause-told c = elim c.if-not-is_spent.branch [
  | then-not-is_spent+in_default w ↦ let ended = w.in_default.ensures.ended in
      takes_ended c.args.self.now w.draw.new.self _ _ ended.0 (c.is_spent.ensures.unspent w.if-not-is_spent.true) ended.1 ended.2 (search rules) (search rules)
  | else-not-is_spent w ↦ takes_again c.args.self.now c.if-not-is_spent.self _ _ (c.is_spent.ensures.spent (search rules)) w.self-is c.take_again.ensures.oldest c.take_again.ensures.taken
]
