use Rattle.side_by_side.proofs.Laws.{statics_law, commuting_law}
use Rattle.side_by_side.proofs.law.law_statics.Goals as goal

pub returns-clause-statics : goal.returns-clause-statics
returns-clause-statics c = statics_law

pub returns-clause-commuting : goal.returns-clause-commuting
returns-clause-commuting c = commuting_law
