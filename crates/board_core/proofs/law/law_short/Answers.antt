use Rattle.board_core.proofs.Short.{legal_short}
use Rattle.board_core.proofs.law.law_short.Goals as goal

pub returns : goal.returns
returns c = legal_short
