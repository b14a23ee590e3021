use Rattle.qasm_grammar.proofs.Laws.{law_read}
use Rattle.qasm_grammar.proofs.law.law_read.Goals as goal

pub returns : goal.returns
returns c = law_read
