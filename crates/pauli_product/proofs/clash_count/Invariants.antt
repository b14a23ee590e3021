use Rattle.std.proofs.Common.{◌≡◌, ◌+◌, ◌*◌, ◌≤◌, drop}
use Rattle.pauli_product.specs.Signed.{clashes}
use Rattle.pauli_product.specs.inside.Masks.{all_letters}
use Rattle.pauli_product.proofs.clash_count.Given as goal

-- going on from here gives all clashes
abbrev pub invariant-loop-i : goal.invariant-loop-i
invariant-loop-i l = record {
  count : l.count + clashes (all_letters (drop l.i l.left)) (all_letters (drop l.i l.right)) ≡ clashes (all_letters l.left) (all_letters l.right);
  small : l.count ≤ 64 * l.i;
}
