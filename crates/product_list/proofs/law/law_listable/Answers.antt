use Rattle.product_list.proofs.Laws.{read_listable}
use Rattle.product_list.proofs.law.law_listable.Goals as goal

pub returns : goal.returns
returns c = read_listable
