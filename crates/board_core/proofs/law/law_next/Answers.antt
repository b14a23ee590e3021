use Rattle.board_core.proofs.Laws.{legal_empty, legal_next, legal_back, legal_front}
use Rattle.board_core.proofs.law.law_next.Goals as goal

pub returns-clause-empty : goal.returns-clause-empty
returns-clause-empty c = legal_empty

pub returns-clause-next : goal.returns-clause-next
returns-clause-next c = legal_next

pub returns-clause-back : goal.returns-clause-back
returns-clause-back c = legal_back

pub returns-clause-front : goal.returns-clause-front
returns-clause-front c = legal_front
