use Rattle.region_plan.proofs.Laws
use Rattle.region_plan.proofs.answer.law_joined.Goals as goal

pub returns : goal.returns
returns c = Laws.law_joined
