use Rattle.qasm_expand.proofs.Trees.{tree_sound}
use Rattle.qasm_expand.proofs.laws.law_sound.Goals as goal

pub returns : goal.returns
returns c = tree_sound
