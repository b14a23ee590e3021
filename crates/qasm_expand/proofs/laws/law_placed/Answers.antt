use Rattle.qasm_expand.proofs.Placed.{flats_placed}
use Rattle.qasm_expand.proofs.laws.law_placed.Goals as goal

pub returns : goal.returns
returns c = flats_placed
