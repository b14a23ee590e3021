use Rattle.board_core.proofs.Frame.{axis_stays, frame_is_source}
use Rattle.board_core.proofs.law.law_frame.Goals as goal

pub returns-clause-stays : goal.returns-clause-stays
returns-clause-stays c = axis_stays

pub returns-clause-source : goal.returns-clause-source
returns-clause-source c = frame_is_source
