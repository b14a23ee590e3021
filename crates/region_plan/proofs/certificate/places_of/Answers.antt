use Rattle.std.proofs.Common.{◌<◌, length, get_or, arith}
use Rattle.std.proofs.lemmas.Option.{slice_get-get_or, slice_get_within}
use Rattle.std.proofs.Math.ListN.{length-set}
use Rattle.region_plan.proofs.Least.{below_few}
use Rattle.region_plan.proofs.Finishing.{placed_next}
use Rattle.region_plan.proofs.certificate.places_of.Goals as goal

pub overflow_cast-index : goal.overflow_cast-index
overflow_cast-index c = omega (arith, below_few c.args.size c.args.cells.now c.requires.distinct c.requires.cells, c.requires.few)

pub loop-index-preserved : goal.loop-index-preserved
loop-index-preserved c =
    let lt : c.loop-index.index < length c.args.cells.now = omega arith in
    let in' : get_or c.args.cells.now c.loop-index.index 0 < c.args.size = c.requires.cells c.loop-index.index 0 lt in (
      placed_next c.args.cells.now c.loop-index.places.items c.loop-index.index (get_or c.args.cells.now c.loop-index.index 0) c.requires.distinct (slice_get-get_or c.args.cells.now c.loop-index.index 0 lt)
          (omega (arith, c.loop-index.invariant.1)) c.loop-index.invariant.0,
      omega (arith, c.loop-index.invariant.1, length-set c.loop-index.places.items (get_or c.args.cells.now c.loop-index.index 0) c.loop-index.index),
    )

pub returns-clause-places : goal.returns-clause-places
returns-clause-places c = λ i x is. c.loop-index.invariant.0 i x (omega (arith, slice_get_within c.args.cells.now i x is)) is
