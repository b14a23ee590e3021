use Rattle.std.proofs.Common.{◌≡◌, drop}
use Rattle.slice_write.specs.inside.Clashes.{greatest_clash}
use Rattle.slice_write.proofs.clashes.latest_clash.Given as goal

abbrev pub invariant-loop-k : goal.invariant-loop-k
invariant-loop-k l = greatest_clash l.products (drop l.k l.placed) l.fn.product ≡ 0
