use Rattle.std.proofs.Common.{◌≡◌, ◌+◌, ◌*◌, ◌≤◌, ◌++◌, take, drop}
use Rattle.pauli_product.specs.Signed.{letters_product, letters_phase}
use Rattle.pauli_product.specs.inside.Masks.{all_letters}
use Rattle.pauli_product.proofs.multiply.Given as goal

-- going on from here gives the product, and the sum of all powers
abbrev pub invariant-loop-i : goal.invariant-loop-i
invariant-loop-i l = record {
  letters : all_letters (take l.i l.left) ++ letters_product (all_letters (drop l.i l.left)) (all_letters (drop l.i l.right)) ≡ letters_product (all_letters l.fn.left) (all_letters l.right);
  power : l.sum + letters_phase (all_letters (drop l.i l.left)) (all_letters (drop l.i l.right)) ≡ letters_phase (all_letters l.fn.left) (all_letters l.right);
  small : l.sum ≤ 192 * l.i;
}
