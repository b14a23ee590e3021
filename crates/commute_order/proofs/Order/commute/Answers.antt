use Rattle.std.proofs.lemmas.Grind.{common_steps}
use Rattle.std.proofs.Common.{arith}
use Rattle.commute_order.proofs.Waits.{commuting_at_swap}
use Rattle.commute_order.proofs.Order.commute.Goals as goal

pub returns-else-i-j : goal.returns-else-i-j
returns-else-i-j c = λ ps us order.
    let swap = commuting_at_swap ps us c.args.i c.args.j in
    let row = order.row c.args.i c.args.j in
    grind (arith, common_steps)
