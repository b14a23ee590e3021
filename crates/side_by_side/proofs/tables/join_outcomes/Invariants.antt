use Rattle.std.proofs.Common.{◌≡◌, take}
use Rattle.std.specs.Prelude.{flat_map}
use Rattle.outcome_table.specs.declared.Outcomes.{Outcomes}
use Rattle.side_by_side.proofs.tables.join_outcomes.Given as goal

abbrev pub invariant-loop-table : goal.invariant-loop-table
invariant-loop-table l = l.given.items ≡ flat_map (λ (t : Outcomes). t.given) (take l.table-index l.table-items)
