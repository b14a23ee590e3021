use Rattle.qasm_lex.proofs.Laws.{tokens_or_fault}
use Rattle.qasm_lex.proofs.law.law_answer.Goals as goal

pub returns : goal.returns
returns c = tokens_or_fault
