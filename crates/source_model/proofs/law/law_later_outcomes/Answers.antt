use Rattle.source_model.proofs.Laws.{later_outcomes}
use Rattle.source_model.proofs.law.law_later_outcomes.Goals as goal

pub returns : goal.returns
returns c = later_outcomes
