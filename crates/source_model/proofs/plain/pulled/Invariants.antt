use Rattle.std.proofs.Common.{◌≡◌, length, drop}
use Rattle.pauli_product.specs.Pulls.{pull}
use Rattle.source_model.proofs.plain.pulled.Given as goal

-- the later turns have acted
abbrev pub invariant-loop-i : goal.invariant-loop-i
invariant-loop-i l = record {
  acted : l.image ≡ pull (drop l.i l.turns) l.p;
  long : length l.image.letters ≡ length l.p.letters;
}
