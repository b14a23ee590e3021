use Rattle.qasm_grammar.proofs.Laws.{law_some_sentence}
use Rattle.qasm_grammar.proofs.law.law_some_sentence.Goals as goal

pub returns : goal.returns
returns c = law_some_sentence
