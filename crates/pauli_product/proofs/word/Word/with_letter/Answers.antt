use Rattle.std.proofs.Common.{set, ap, ◌∙◌}
use Rattle.pauli_product.specs.declared.Letter.{Letter}
use Rattle.pauli_product.specs.inside.Words.{mask_letters, word_letters}
use Rattle.pauli_product.proofs.WordLetters.{letter_put}
use Rattle.pauli_product.proofs.word.Word.with_letter.Goals as goal

pub returns : goal.returns
unfolding word_letters
returns c =
    letter_put 64 c.args.self.x c.args.self.z c.with_bit.result c.with_bit-2.result c.args.i _ _ c.requires c.with_bit.ensures.there c.with_bit.ensures.elsewhere c.with_bit-2.ensures.there c.with_bit-2.ensures.elsewhere
    ∙ ap (λ (l : Letter). set (mask_letters 64 c.args.self.x c.args.self.z) c.args.i l) c.bits_of-x.ensures
