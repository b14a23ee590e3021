use Rattle.least_region.specs.inside.Growth.{MergedTo}
use Rattle.least_region.proofs.merge.merge_parts.Given as goal

abbrev pub invariant-loop-one : goal.invariant-loop-one
invariant-loop-one l = MergedTo l.rows l.subset l.limit l.fn.row l.row l.one
