use Rattle.std.proofs.Common.{◌≡◌, length}
use Rattle.patch_layout.specs.inside.Kept.{HasColumns}
use Rattle.patch_layout.proofs.tables.columns_of.Given as goal

abbrev pub invariant-loop-cell : goal.invariant-loop-cell
invariant-loop-cell l = (length l.table.items ≡ l.cell) × HasColumns l.columns l.cell l.table.items
