use Rattle.std.proofs.Common.{None, arith, get_or}
use Rattle.std.proofs.lemmas.Option.{slice_get-get_or}
use Rattle.region_plan.specs.Free.{Free}
use Rattle.region_plan.proofs.Serving.{served_none, served_some}
use Rattle.region_plan.proofs.growth.region_on.Goals as goal

pub returns-in-Some : goal.returns-in-Some
returns-in-Some c =
    served_some c.args.layout.now (Free c.args.layout.now c.args.held.now) c.args.side c.args.sides.now c.side-pair.result c.loop-index.index (get_or c.side-pair.result c.loop-index.index None) c.in_ok-region.field-0 c.in-Some.region
    c.side-pair.ensures.value c.side-pair.ensures.ascending (omega (arith, c.side-pair.type_inv)) c.loop-index.invariant
    (slice_get-get_or c.side-pair.result c.loop-index.index None (omega (arith, c.side-pair.type_inv))) c.in-Some.is c.in_ok-region.ensures

pub returns : goal.returns
returns c =
    served_none c.args.layout.now (Free c.args.layout.now c.args.held.now) c.args.side c.args.sides.now c.side-pair.result c.loop-index.index c.side-pair.ensures.value (omega (arith, c.side-pair.type_inv)) c.loop-index.invariant
