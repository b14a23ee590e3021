use Rattle.product_list.specs.inside.Lines.{ending_said}
use Rattle.product_list.proofs.Wording.{ended, not_ended}
use Rattle.product_list.proofs.line.ends.Goals as goal

pub returns-in_err-no_more-clause-none : goal.returns-in_err-no_more-clause-none
returns-in_err-no_more-clause-none c = rw c.from_residual.ensures (not_ended c.args.words.now (ending_said c.args.ending) c.in_err-no_more.ensures.none)

pub returns-clause-some : goal.returns-clause-some
returns-clause-some c = ended c.args.words.now (ending_said c.args.ending) c.in_ok-no_more.ensures.some
