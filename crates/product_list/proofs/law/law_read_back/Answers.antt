use Rattle.product_list.proofs.Laws.{printed_read}
use Rattle.product_list.proofs.law.law_read_back.Goals as goal

pub returns : goal.returns
returns c = printed_read
