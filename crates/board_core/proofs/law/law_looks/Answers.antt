use Rattle.board_core.proofs.Laws as laws
use Rattle.board_core.proofs.law.law_looks.Goals as goal

pub returns : goal.returns
returns c = laws.law_looks
