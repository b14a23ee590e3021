use Rattle.std.proofs.Common.{◌≡◌, ◌-◌, ◌++◌, take, replicate}
use Rattle.pauli_product.specs.declared.Letter.TheVariants.{I}
use Rattle.pauli_product.specs.inside.Words.{word_letters}
use Rattle.pauli_product.proofs.pack.Given as goal

-- the letters so far, and I
abbrev pub invariant-loop-i : goal.invariant-loop-i
invariant-loop-i l = word_letters l.word ≡ take l.i l.letters ++ replicate (64 - l.i) I
