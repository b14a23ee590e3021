use Rattle.std.proofs.Common.{◌∙◌, ap}
use Rattle.std.proofs.lemmas.List.{take_all}
use Rattle.slice_write.specs.Slices.{greatest}
use Rattle.slice_write.proofs.Greatest.{greatest_push}
use Rattle.slice_write.proofs.text.greatest.Goals as goal

pub loop-slice-preserved : goal.loop-slice-preserved
loop-slice-preserved c = cc (greatest_push c.args.slices.now c.loop-slice.slice-index c.loop-slice-test.true, c.max-greatest.ensures, c.loop-slice.invariant)

pub returns : goal.returns
returns c = c.loop-slice.invariant ∙ ap greatest (take_all c.loop-slice.slice-index c.args.slices.now c.loop-slice-test.false)
