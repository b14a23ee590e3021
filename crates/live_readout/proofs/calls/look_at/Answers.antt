use Rattle.live_readout.proofs.Passings.{looked, shows_letter}
use Rattle.live_readout.proofs.calls.look_at.Goals as goal

pub returns-clause-passed : goal.returns-clause-passed
returns-clause-passed c =
    let e = c.look.ensures in
    looked c.args.pass.now c.look.new.pass e.same e.rests e.told.0 e.told.1 c.args.p c.args.shown.now c.look.new.look c.look.result e.told.2

pub returns-clause-shown : goal.returns-clause-shown
returns-clause-shown c =
    let told = c.look.ensures.told in
    shows_letter told.0 c.look.new.pass.view c.args.p c.args.shown.now c.look.new.look c.look.result told.2
