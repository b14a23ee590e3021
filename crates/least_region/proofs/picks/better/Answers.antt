use Rattle.std.proofs.Common.{length, arith}
use Rattle.std.proofs.lemmas.Option.{slice_get_within}
use Rattle.patch_layout.specs.declared.layout.Site.TheVariants as site
use Rattle.patch_layout.proofs.Laws.{law_sides}
use Rattle.least_region.proofs.Picking.{better_done}
use Rattle.least_region.proofs.picks.better.Goals as goal

pub better_among-requires : goal.better_among-requires
better_among-requires c d on =
    let a = law_sides c.args.layout.now c.args.side d ((c.side-places.ensures.value d).0 on) in
    omega (arith, slice_get_within c.args.layout.now.sites d site.Ancilla a, c.requires)

pub returns : goal.returns
returns c =
    better_done c.args.layout.now c.args.sizes.now c.args.side c.side-places.result (length c.side-places.result) c.args.port c.args.pick c.better_among.result
    (λ d. (c.side-places.ensures.value d).0) (λ d. (c.side-places.ensures.value d).1) (omega arith) c.better_among.ensures
