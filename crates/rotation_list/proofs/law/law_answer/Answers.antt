use Rattle.rotation_list.proofs.Laws.{circuit_or_fault}
use Rattle.rotation_list.proofs.law.law_answer.Goals as goal

pub returns : goal.returns
returns c = circuit_or_fault c.law_answer.ensures
