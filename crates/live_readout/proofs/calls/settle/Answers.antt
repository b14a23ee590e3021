use Rattle.live_readout.proofs.Passings.{settled}
use Rattle.live_readout.proofs.calls.settle.Goals as goal

pub returns : goal.returns
returns c =
    let e = c.deliver.ensures in
    settled c.args.pass.now c.deliver.new.pass e.same e.rests e.told.0 e.told.1 c.args.p c.args.node c.deliver.result e.told.2
