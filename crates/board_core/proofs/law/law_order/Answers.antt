use Rattle.board_core.proofs.LegalOrder.{legal_order}
use Rattle.board_core.proofs.law.law_order.Goals as goal

pub returns : goal.returns
returns c n j table h long l = legal_order n j table long l h
