use Rattle.std.proofs.Common.{◌≡◌, ℕ, ◌<◌, ◌+◌}
use Rattle.least_region.specs.inside.Trace.{PairFits}
use Rattle.least_region.proofs.trace.part_at.Given as goal

abbrev pub invariant-loop-one : goal.invariant-loop-one
invariant-loop-one l = (a b : ℕ) → a < l.one → 0 < a → a + b ≡ l.subset → PairFits l.rows a b l.cell l.size → ⊥
