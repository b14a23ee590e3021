use Rattle.board_core.proofs.Apart.{states_once}
use Rattle.board_core.proofs.law.law_states.Goals as goal

pub returns : goal.returns
returns c = states_once
