use Rattle.std.proofs.Common.{subst}
use Rattle.number_share.specs.Hands.{IsSpent}
use Rattle.number_share.proofs.share.Hand.is_spent.Goals as goal

pub returns-clause-spent : goal.returns-clause-spent
returns-clause-spent c = λ e. subst IsSpent c.self.view_is (c.self.invariant.spent_by e)
