use Rattle.std.proofs.Common.{◌<◌, length, get_or, ap, ◌∙◌, arith}
use Rattle.std.specs.Prelude.{if◌then◌else◌}
use Rattle.std.proofs.lemmas.List.{take_all}
use Rattle.slice_write.specs.Slices.{is_among}
use Rattle.slice_write.proofs.Places.{set_more}
use Rattle.slice_write.proofs.numbers.set_at.Goals as goal

pub loop-cell-preserved : goal.loop-cell-preserved
loop-cell-preserved c =
    let within : get_or c.args.cells.now c.loop-cell.cell-index 0 < length c.loop-cell.table = omega (arith, c.requires c.loop-cell.cell-index 0 c.loop-cell-test.true) in
    set_more c.args.table.now c.loop-cell.table c.args.cells.now c.loop-cell.cell-index c.args.slice c.loop-cell-test.true within c.loop-cell.invariant

pub returns : goal.returns
returns c = λ x low. c.loop-cell.invariant x low ∙ ap (λ l. if is_among l x then c.args.slice else get_or c.args.table.now x 0) (take_all c.loop-cell.cell-index c.args.cells.now c.loop-cell-test.false)
