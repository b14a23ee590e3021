use Rattle.std.proofs.Common.{◌≡◌, ◌++◌, drop}
use Rattle.patch_layout.specs.Row.{ancilla_from, ancilla_cells}
use Rattle.patch_layout.proofs.row.whole_region.Given as goal

abbrev pub invariant-loop-cell : goal.invariant-loop-cell
invariant-loop-cell l = l.cells.items ++ ancilla_from l.cell (drop l.cell l.layout.sites) ≡ ancilla_cells l.layout
