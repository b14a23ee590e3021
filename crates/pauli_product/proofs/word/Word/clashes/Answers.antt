use Rattle.std.proofs.Common.{arith}
use Rattle.pauli_product.specs.inside.Words.{word_letters}
use Rattle.pauli_product.proofs.WordLetters.{clash_fits, few_clashes, ones_clash}
use Rattle.pauli_product.proofs.word.Word.clashes.Goals as goal

pub returns-clause-value : goal.returns-clause-value
unfolding word_letters
returns-clause-value c =
    let a = c.args.self in
    let b = c.args.other in
    ones_clash 64 a.x a.z b.x b.z (clash_fits 64 a.x a.z b.x b.z (omega arith) (omega arith) (omega arith) (omega arith))

pub returns-clause-few : goal.returns-clause-few
returns-clause-few c =
    few_clashes 64 c.args.self.x c.args.self.z c.args.other.x c.args.other.z (omega arith) (omega arith) (omega arith) (omega arith)
