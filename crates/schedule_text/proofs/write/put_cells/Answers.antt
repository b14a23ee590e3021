use Rattle.std.proofs.Common.{◌<◌, length, arith, get_or}
use Rattle.std.proofs.lemmas.Option.{slice_get-get_or}
use Rattle.schedule_text.specs.inside.Pens.{cell_word}
use Rattle.patch_base.proofs.Passing.{on_err}
use Rattle.schedule_text.proofs.Pieces.{passes_more, began_more_of}
use Rattle.schedule_text.proofs.write.put_cells.Goals as goal

pub returns-in_err-put_cell-clause-prefix : goal.returns-in_err-put_cell-clause-prefix
returns-in_err-put_cell-clause-prefix g c =
    let within : c.loop-cell.cell-index < length c.args.cells.now = omega arith in
    on_err _ c.from_residual.result (began_more_of cell_word c.args.cells.now c.loop-cell.cell-index (get_or c.args.cells.now c.loop-cell.cell-index 0) _ (slice_get-get_or _ _ 0 within) c.loop-cell.invariant.passes c.in_err-put_cell.ensures.prefix)

pub loop-cell-preserved : goal.loop-cell-preserved
loop-cell-preserved g c =
    let within : c.loop-cell.cell-index < length c.args.cells.now = omega arith in
    record {
      counts = omega (arith, c.in_ok-put_cell.ensures.counts);
      passes = passes_more cell_word c.args.cells.now c.loop-cell.cell-index (get_or c.args.cells.now c.loop-cell.cell-index 0) (slice_get-get_or _ _ 0 within) c.loop-cell.invariant.passes c.in_ok-put_cell.ensures.ok;
      room = c.in_ok-put_cell.ensures.room;
    }
