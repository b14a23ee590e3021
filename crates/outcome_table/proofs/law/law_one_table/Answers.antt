use Rattle.outcome_table.proofs.Once.{table_once}
use Rattle.outcome_table.proofs.law.law_one_table.Goals as goal

pub returns : goal.returns
returns c = λ a text t t' fs fs' h k. table_once a text t t' fs fs' h k
