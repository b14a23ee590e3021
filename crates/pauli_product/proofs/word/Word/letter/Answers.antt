use Rattle.std.proofs.Common.{true, false}
use Rattle.pauli_product.specs.inside.Words.{word_letters}
use Rattle.pauli_product.proofs.WordLetters.{letter_read}
use Rattle.pauli_product.proofs.word.Word.letter.Goals as goal

pub returns-in-true-true : goal.returns-in-true-true
unfolding word_letters
returns-in-true-true c = letter_read 64 c.args.self.x c.args.self.z c.args.i true true c.requires c.in-true-true.ensures c.in-true-true.ensures'

pub returns-in-true-false : goal.returns-in-true-false
unfolding word_letters
returns-in-true-false c = letter_read 64 c.args.self.x c.args.self.z c.args.i true false c.requires c.in-true-false.ensures c.in-true-false.ensures'

pub returns-in-false-true : goal.returns-in-false-true
unfolding word_letters
returns-in-false-true c = letter_read 64 c.args.self.x c.args.self.z c.args.i false true c.requires c.in-false-true.ensures c.in-false-true.ensures'

pub returns-in-false-false : goal.returns-in-false-false
unfolding word_letters
returns-in-false-false c = letter_read 64 c.args.self.x c.args.self.z c.args.i false false c.requires c.in-false-false.ensures c.in-false-false.ensures'
