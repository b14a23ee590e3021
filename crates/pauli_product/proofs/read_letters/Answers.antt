use Rattle.std.proofs.Common.{◌≡◌, ◌<◌, [], ◌∷◌, length, get_or, ap, sym, ◌∙◌, arith, take_all}
use Rattle.pauli_product.specs.Spelling.{letter_text}
use Rattle.pauli_product.proofs.Texts.{letters_text, letters_at, same_letters}
use Rattle.pauli_product.proofs.read_letters.Goals as goal

-- a byte that is no letter's
pub returns-in-None-clause-exact : goal.returns-in-None-clause-exact
returns-in-None-clause-exact c = λ ls e.
    let i = c.loop-byte.byte-index in
    let within : i < length (letters_text ls) = omega (arith, ap length e) in
    let at = letters_at ls i within in
    let same : letter_text at.0 ≡ get_or c.args.text.now i 0 ∷ [] = at.1 ∙ ap (λ s. get_or s i 0 ∷ []) (sym e) in
    let found = c.in-None.ensures.exact at.0 same in
    cc

pub returns-clause-exact : goal.returns-clause-exact
returns-clause-exact c = λ ls e.
    let whole = take_all c.loop-byte.byte-index c.args.text.now (omega arith) in
    same_letters c.loop-byte.letters.items ls (sym c.loop-byte.invariant.read ∙ whole ∙ e)
