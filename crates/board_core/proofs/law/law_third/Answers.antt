use Rattle.board_core.proofs.Frame.{third_holds}
use Rattle.board_core.proofs.law.law_third.Goals as goal

pub returns : goal.returns
returns c = third_holds
