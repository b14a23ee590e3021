use Rattle.std.proofs.Common.{ap, ◌∙◌}
use Rattle.std.proofs.lemmas.List.{take_all}
use Rattle.slice_write.specs.inside.Numbers.{greatest_at}
use Rattle.slice_write.proofs.Places.{greatest_at_more}
use Rattle.slice_write.proofs.numbers.greatest_at.Goals as goal

pub loop-cell-preserved : goal.loop-cell-preserved
loop-cell-preserved c =
    let more = greatest_at_more c.args.table.now c.args.cells.now c.loop-cell.cell-index c.loop-cell-test.true in
    cc (more, c.max-greatest.ensures, c.loop-cell.invariant)

pub returns : goal.returns
returns c = c.loop-cell.invariant ∙ ap (greatest_at c.args.table.now) (take_all c.loop-cell.cell-index c.args.cells.now c.loop-cell-test.false)
