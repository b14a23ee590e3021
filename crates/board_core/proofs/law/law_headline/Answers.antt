use Rattle.board_core.proofs.WholeRun.{legal_run}
use Rattle.board_core.proofs.law.law_headline.Goals as goal

pub returns : goal.returns
returns c = legal_run
