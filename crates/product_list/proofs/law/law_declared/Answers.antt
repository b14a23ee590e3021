use Rattle.product_list.proofs.Laws.{declared_more}
use Rattle.product_list.proofs.law.law_declared.Goals as goal

pub returns : goal.returns
returns c = declared_more
