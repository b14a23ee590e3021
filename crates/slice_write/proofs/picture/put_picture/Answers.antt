use Rattle.std.proofs.Common.{◌<◌, length, arith}
use Rattle.slice_write.specs.Pictures.{piece, nobody}
use Rattle.patch_base.proofs.Passing.{on_err}
use Rattle.slice_write.proofs.Pieces.{passes_more, began_more_of}
use Rattle.slice_write.proofs.picture.put_picture.Goals as goal

pub loop-cell-preserved : goal.loop-cell-preserved
loop-cell-preserved g c = record {
  counts = omega (arith, c.in_ok-put_cell.ensures.counts);
  passes = passes_more (piece c.args.layout.now nobody) c.loop-cell.cell c.loop-cell.invariant.passes c.in_ok-put_cell.ensures.ok;
}

pub returns-in_err-put_cell-clause-prefix : goal.returns-in_err-put_cell-clause-prefix
returns-in_err-put_cell-clause-prefix g c =
    let low : c.loop-cell.cell < length c.args.layout.now.sites = omega (arith, c.loop-cell-test.true, c.size-cell-end.ensures.value) in
    on_err _ c.from_residual.result (began_more_of (piece c.args.layout.now nobody) c.loop-cell.cell (length c.args.layout.now.sites) _ low c.loop-cell.invariant.passes c.in_err-put_cell.ensures.prefix)
