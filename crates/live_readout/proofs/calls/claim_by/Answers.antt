use Rattle.live_readout.proofs.Passings.{claimed}
use Rattle.live_readout.proofs.calls.claim_by.Goals as goal

pub returns : goal.returns
returns c =
    let e = c.claim.ensures in
    claimed c.args.pass.now c.claim.new.pass e.same e.rests e.told.0 e.told.1 c.args.plan c.args.node c.claim.result e.told.2
