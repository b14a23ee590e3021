use Rattle.outcome_table.proofs.Once.{stands_refuses}
use Rattle.outcome_table.proofs.law.law_table_or_fault.Goals as goal

pub returns : goal.returns
returns c = λ a text t fs f h k. stands_refuses a text t fs f h k
