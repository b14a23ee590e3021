use Rattle.std.proofs.Common.{◌≡◌, length}
use Rattle.arrival_line.proofs.tests.turns.Given as goal

abbrev pub invariant-loop-product : goal.invariant-loop-product
invariant-loop-product l = length l.items.items ≡ l.product
