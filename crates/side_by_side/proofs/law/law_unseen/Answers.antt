use Rattle.side_by_side.proofs.Laws.{unseen_law}
use Rattle.side_by_side.proofs.law.law_unseen.Goals as goal

pub returns : goal.returns
returns c = unseen_law
