use Rattle.qasm_grammar.proofs.Laws.{law_stop}
use Rattle.qasm_grammar.proofs.law.law_stop.Goals as goal

pub returns : goal.returns
returns c = law_stop
