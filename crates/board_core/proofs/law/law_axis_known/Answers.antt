use Rattle.board_core.proofs.Known.{axis_known, flip_known}
use Rattle.board_core.proofs.WholeRun.{own_axis_known}
use Rattle.board_core.proofs.law.law_axis_known.Goals as goal

pub returns-clause-axis : goal.returns-clause-axis
returns-clause-axis c = axis_known

pub returns-clause-flip : goal.returns-clause-flip
returns-clause-flip c = flip_known

pub returns-clause-own : goal.returns-clause-own
returns-clause-own c = own_axis_known
