use Rattle.source_model.proofs.Laws.{axes_on_used}
use Rattle.source_model.proofs.law.law_used.Goals as goal

pub returns : goal.returns
returns c = axes_on_used
