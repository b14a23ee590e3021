use Rattle.std.proofs.Common.{subst, sym}
use Rattle.board_core.specs.inside.Kept.{Kept}
use Rattle.board_core.specs.Uses.{all_axes, all_uses}
use Rattle.board_core.proofs.Waits.{least_wait}
use Rattle.board_core.proofs.ledger.Ledger.waits_on.Goals as goal

pub returns : goal.returns
returns c j h k within =
    let here = subst (Kept j h) (sym c.self.view_is) k in
    least_wait j h _ c.args.p within here.done c.waits_on.result (c.waits_on.ensures (all_axes j.products) (all_uses j.products) here.order)
