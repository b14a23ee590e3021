use Rattle.outcome_table.proofs.Once.{refused_once}
use Rattle.outcome_table.proofs.law.law_one_fault.Goals as goal

pub returns : goal.returns
returns c = λ a text f f' h k. refused_once a text f f' h k
