use Rattle.board_core.proofs.Apart.{one_holder}
use Rattle.board_core.proofs.law.law_apart.Goals as goal

pub returns : goal.returns
returns c = one_holder
