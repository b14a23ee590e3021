use Rattle.std.proofs.Common.{◌≡◌, ◌≢◌, ℕ, ◌-◌, ◌<◌, ◌≤◌, length, get_or}
use Rattle.pauli_product.specs.declared.Letter.TheVariants.{I}
use Rattle.pauli_product.specs.Signed.{Signed}
use Rattle.pauli_product.specs.Pulls.{carry}
use Rattle.frame_table.specs.Images.{turns_about}
use Rattle.frame_table.specs.inside.Steps.{IsSquare}
use Rattle.frame_table.proofs.turn_at.Given as goal

abbrev pub invariant-loop-from : goal.invariant-loop-from
invariant-loop-from l = record {
  square : IsSquare (length l.fn.images) l.images;
  turned : (q : ℕ) (d : Signed) → q < l.from → get_or l.own.letters q I ≢ I → get_or l.images q d ≡ carry (turns_about l.axis l.quarter l.half) (get_or l.fn.images q d);
  kept : (q : ℕ) (d : Signed) → q < l.from → get_or l.own.letters q I ≡ I → get_or l.images q d ≡ get_or l.fn.images q d;
  rest : (q : ℕ) (d : Signed) → l.from ≤ q → get_or l.images q d ≡ get_or l.fn.images q d;
}

abbrev pub decreases-loop-from : goal.decreases-loop-from
decreases-loop-from l = length l.own.letters - l.from
