use Rattle.std.proofs.Common.{◌<◌, None, length, sym, subst, arith}
use Rattle.layer_pass.specs.inside.Lows.{IsLow}
use Rattle.layer_pass.proofs.Sets.{least_above, reach_silent}
use Rattle.layer_pass.proofs.draft.narrow.Goals as goal

pub returns-in-None-clause-reach : goal.returns-in-None-clause-reach
returns-in-None-clause-reach c = λ ps us layer rows order size filled all reach.
    let n = length c.args.order.now in
    let p = c.args.p in
    let low = c.index-lows-at.result in
    let inside : c.args.at < length c.args.lows.now = let h = c.requires.some in omega arith in
    let fits : IsLow layer n low = subst (IsLow layer n) (sym c.index-lows-at.is) (all c.args.at low inside) in
    reach_silent ps us layer rows p _ _ _ reach low.row filled size (least_above ps us layer n p low fits size c.requires.p None (c.in-None.ensures.first ps us order))
