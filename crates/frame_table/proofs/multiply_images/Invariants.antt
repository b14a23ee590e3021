use Rattle.std.proofs.Common.{◌≡◌, ℕ, ◌-◌, ◌≤◌, List, length}
use Rattle.pauli_product.specs.Signed.{plus, OfLength}
use Rattle.pauli_product.specs.Pulls.{Turn, carry}
use Rattle.frame_table.specs.Images.{After}
use Rattle.frame_table.proofs.Prefix.{prefix}
use Rattle.frame_table.proofs.multiply_images.Given as goal

-- the image of the letters before `from`, with I for the others
abbrev pub invariant-loop-from : goal.invariant-loop-from
invariant-loop-from l = record {
  within : l.from ≤ length l.p.letters;
  long : OfLength (length l.x) l.into;
  image : (n : ℕ) (turns : List Turn) → After n turns (record { x = l.x; z = l.z }) → l.into ≡ carry turns (plus (prefix l.from l.p.letters));
}

abbrev pub decreases-loop-from : goal.decreases-loop-from
decreases-loop-from l = length l.p.letters - l.from
