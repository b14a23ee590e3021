use Rattle.pauli_product.specs.inside.Words.{word_letters}
use Rattle.pauli_product.proofs.WordLetters.{no_letters}
use Rattle.pauli_product.proofs.word.Word.identity.Goals as goal

pub returns : goal.returns
unfolding word_letters
returns c = no_letters 64
