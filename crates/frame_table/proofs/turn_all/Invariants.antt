use Rattle.std.proofs.Common.{◌≡◌, ℕ, ◌<◌, ◌≤◌, length, get_or}
use Rattle.pauli_product.specs.Signed.{Signed}
use Rattle.pauli_product.specs.Pulls.{carry}
use Rattle.frame_table.specs.Images.{turns_about}
use Rattle.frame_table.specs.inside.Steps.{IsSquare}
use Rattle.frame_table.proofs.turn_all.Given as goal

abbrev pub invariant-loop-image : goal.invariant-loop-image
invariant-loop-image l = record {
  square : IsSquare (length l.fn.images) l.images;
  done : (q : ℕ) (d : Signed) → q < l.image-index → get_or l.images q d ≡ carry (turns_about l.axis l.quarter l.half) (get_or l.fn.images q d);
  rest : (q : ℕ) (d : Signed) → l.image-index ≤ q → get_or l.images q d ≡ get_or l.fn.images q d;
}
