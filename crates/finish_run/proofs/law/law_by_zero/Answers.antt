use Rattle.finish_run.proofs.Laws as laws
use Rattle.finish_run.proofs.law.law_by_zero.Goals as goal

pub returns : goal.returns
returns c = laws.law_by_zero
