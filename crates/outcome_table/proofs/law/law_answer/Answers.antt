use Rattle.outcome_table.proofs.Laws.{table_or_fault}
use Rattle.outcome_table.proofs.law.law_answer.Goals as goal

pub returns : goal.returns
returns c = table_or_fault
