use Rattle.live_readout.proofs.Passings.{released}
use Rattle.live_readout.proofs.calls.let_go.Goals as goal

pub returns : goal.returns
returns c =
    let e = c.release.ensures in
    released c.args.pass.now c.release.new.pass e.same e.rests e.told.0 e.told.1 c.args.p c.args.node c.release.result e.told.2
