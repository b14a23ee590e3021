use Rattle.qasm_grammar.proofs.Laws.{law_one_sentence}
use Rattle.qasm_grammar.proofs.law.law_one_sentence.Goals as goal

pub returns : goal.returns
returns c = law_one_sentence
