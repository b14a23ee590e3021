use Rattle.source_model.proofs.Laws.{bits_last}
use Rattle.source_model.proofs.law.law_bits.Goals as goal

pub returns : goal.returns
returns c = bits_last
