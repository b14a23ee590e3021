use Rattle.std.proofs.Common.{◌≡◌, ◌^◌, length}
use Rattle.least_region.specs.inside.Table.{Table}
use Rattle.least_region.proofs.table.table.Given as goal

abbrev pub invariant-loop-place : goal.invariant-loop-place
invariant-loop-place l = (length l.rows.items ≡ 2 ^ l.place) × Table l.layout l.free l.limit l.sides l.rows.items
