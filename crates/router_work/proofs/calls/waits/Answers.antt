-- The last time that the turn was found held is the answer.
use Rattle.std.proofs.Common.{arith}
use Rattle.router_work.proofs.Waitings.{waited_last}
use Rattle.router_work.proofs.calls.waits.Goals as goal

pub returns-clause-told : goal.returns-clause-told
returns-clause-told c =
    let l = c.loop-turn in
    let m = l.invariant.met in
    waited_last c.args.pass.now.view l.pass.view l.invariant.waited (omega arith)
