use Rattle.live_readout.proofs.Passings.{asked}
use Rattle.live_readout.proofs.calls.ask.Goals as goal

pub returns : goal.returns
returns c =
    let e = c.waits.ensures in
    asked c.args.pass.now c.waits.new.pass e.same e.rests e.told.0 e.told.1 c.args.p c.waits.result e.told.2
