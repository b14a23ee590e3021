use Rattle.std.proofs.Common.{arith}
use Rattle.patch_layout.proofs.Notes.{column_added}
use Rattle.patch_layout.proofs.tables.columns_of.Goals as goal

pub loop-cell-preserved : goal.loop-cell-preserved
loop-cell-preserved c =
    rw c.in_ok-push.ensures.items (column_added c.args.columns c.loop-cell.cell c.loop-cell.table.items c.loop-cell.invariant.0 c.loop-cell.invariant.1)

pub returns : goal.returns
returns c cell lt = c.loop-cell.invariant.1 cell (omega (arith, lt, c.loop-cell-test.false))
