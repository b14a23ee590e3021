use Rattle.qasm_parse.proofs.Laws.{law_tree_or_fault}
use Rattle.qasm_parse.proofs.law.law_tree_or_fault.Goals as goal

pub returns : goal.returns
returns c = law_tree_or_fault
