use Rattle.board_core.proofs.Laws as laws
use Rattle.board_core.proofs.law.law_source.Goals as goal

pub returns-clause-axes : goal.returns-clause-axes
returns-clause-axes c = laws.law_source_axes

pub returns-clause-flips : goal.returns-clause-flips
returns-clause-flips c = laws.law_source_flips
