use Rattle.qasm_parse.proofs.Laws.{law_one_tree}
use Rattle.qasm_parse.proofs.law.law_one_tree.Goals as goal

pub returns : goal.returns
returns c = law_one_tree
