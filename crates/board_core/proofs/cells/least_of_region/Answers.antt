use Rattle.std.proofs.Common.{◌≡◌, ℕ, length, arith, subst}
use Rattle.std.proofs.lemmas.Option.{slice_get-get_or}
use Rattle.board_core.specs.inside.Cells.{IsCellBelow, LeastTaken}
use Rattle.board_core.proofs.CellTables.{least_region_next}
use Rattle.board_core.proofs.cells.least_of_region.Goals as goal

pub loop-cell-preserved : goal.loop-cell-preserved
loop-cell-preserved c g a f =
    least_region_next g a f c.args.cells.now c.loop-cell.cell-index _ c.args.holders.now c.loop-cell.best c.better-best.result c.better-best.ensures (slice_get-get_or c.args.cells.now c.loop-cell.cell-index _ c.loop-cell-test.true) c.requires (c.loop-cell.invariant g a f)

pub returns : goal.returns
returns c g a f =
    let e : c.loop-cell.cell-index ≡ length c.args.cells.now = omega (arith, c.loop-cell.auto.cell-index-end) in
    subst (λ (n : ℕ). LeastTaken (IsCellBelow g a f c.args.cells.now n) c.args.holders.now c.loop-cell.best) e (c.loop-cell.invariant g a f)
