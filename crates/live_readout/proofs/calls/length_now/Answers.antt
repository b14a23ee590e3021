use Rattle.router_work.proofs.Passings.{passed_measured}
use Rattle.live_readout.specs.Entries.{IsTaking}
use Rattle.live_readout.proofs.calls.length_now.Goals as goal

pub returns : goal.returns
returns c =
    let e = c.length.ensures in
    passed_measured IsTaking c.args.pass.now c.length.new.pass c.length.result e.same e.rests e.told
