use Rattle.std.proofs.Common.{◌+◌, ◌-◌, ◌^◌, ◌<◌, ◌≤◌, length}
use Rattle.least_region.specs.inside.Table.{Table}
use Rattle.least_region.proofs.table.add_side.Given as goal

abbrev pub invariant-rows : goal.invariant-rows
invariant-rows l = (2 ^ l.place < length l.rows.items) × (length l.rows.items ≤ 2 ^ (l.place + 1)) × Table l.layout l.free l.limit l.sides l.rows.items

abbrev pub decreases-rows : goal.decreases-rows
decreases-rows l = l.all - length l.rows.items
