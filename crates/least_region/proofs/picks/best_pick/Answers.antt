use Rattle.std.proofs.Common.{subst, Option}
use Rattle.patch_layout.specs.declared.layout.Side.{Side}
use Rattle.least_region.specs.inside.Pick.{Split}
use Rattle.least_region.proofs.Picking.{picked_side, picked_port}
use Rattle.least_region.proofs.picks.best_pick.Goals as goal

pub returns-in-None : goal.returns-in-None
returns-in-None c sides split =
    picked_port c.args.layout.now c.args.look.now sides c.args.sizes.now c.args.pick c.best_port.result (subst (λ (o : Option Side). Split c.args.look.now sides o) c.in-None.is split) c.best_port.ensures

pub returns-in-Some : goal.returns-in-Some
returns-in-Some c sides split =
    picked_side c.args.layout.now c.args.look.now sides c.in-Some.side c.args.sizes.now c.args.pick c.better.result (subst (λ (o : Option Side). Split c.args.look.now sides o) c.in-Some.is split) c.better.ensures
