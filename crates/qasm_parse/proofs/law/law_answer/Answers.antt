use Rattle.qasm_parse.proofs.Laws.{law_answer}
use Rattle.qasm_parse.proofs.law.law_answer.Goals as goal

pub returns : goal.returns
returns c = law_answer
