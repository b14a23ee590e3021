use Rattle.board_core.proofs.LegalOrder.{legal_claims}
use Rattle.board_core.proofs.law.law_claims.Goals as goal

pub returns : goal.returns
returns c n j table h p axis long l = legal_claims n j table long l h p axis
