use Rattle.arrival_line.proofs.Words.{ends-rest}
use Rattle.arrival_line.proofs.laws.law_end.Goals as goal

pub returns : goal.returns
returns c = ends-rest
