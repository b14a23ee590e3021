use Rattle.qasm_lex.proofs.Placed.{placed}
use Rattle.qasm_lex.proofs.law.law_placed.Goals as goal

pub returns : goal.returns
returns c = placed
