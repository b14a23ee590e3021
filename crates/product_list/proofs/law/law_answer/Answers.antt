use Rattle.product_list.proofs.Laws.{list_or_fault}
use Rattle.product_list.proofs.law.law_answer.Goals as goal

pub returns : goal.returns
returns c = list_or_fault
