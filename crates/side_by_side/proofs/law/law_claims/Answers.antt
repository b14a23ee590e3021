use Rattle.side_by_side.proofs.Laws.{claims_law}
use Rattle.side_by_side.proofs.law.law_claims.Goals as goal

pub returns : goal.returns
returns c = claims_law
