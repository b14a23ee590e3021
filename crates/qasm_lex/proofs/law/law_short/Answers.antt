use Rattle.qasm_lex.proofs.Placed.{short}
use Rattle.qasm_lex.proofs.law.law_short.Goals as goal

pub returns : goal.returns
returns c = short
