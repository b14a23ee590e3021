use Rattle.std.proofs.Common.{◌≡◌, ◌-◌, ◌*◌, ◌++◌, length, take, replicate}
use Rattle.pauli_product.specs.declared.Letter.TheVariants.{I}
use Rattle.pauli_product.specs.inside.Masks.{all_letters}
use Rattle.pauli_product.proofs.fill.Given as goal

-- the letters so far, and I past the last one
abbrev pub invariant-loop-i : goal.invariant-loop-i
invariant-loop-i l = all_letters (take l.i l.words) ≡ take (64 * l.i) l.letters ++ replicate (64 * l.i - length l.letters) I
