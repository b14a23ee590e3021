use Rattle.std.proofs.Common.{◌∙◌}
use Rattle.router_work.proofs.Passings.{passed_on}
use Rattle.live_readout.specs.inside.Workers.{IsAnyHanding}
use Rattle.live_readout.proofs.Handings.{handed_made, handed_passed, released_any, released_same}
use Rattle.live_readout.proofs.deliverer.hand_over.Goals as goal

pub returns-in-Ok-clause-passed : goal.returns-in-Ok-clause-passed
returns-in-Ok-clause-passed c =
    let p = c.args.pass.now in
    let q = c.deliver.new.pass in
    let e = c.deliver.ensures in
    let a = c.args.arrival in
    passed_on IsAnyHanding p q c.let_go.new.pass
    (handed_passed p q e.same e.rests e.told.0 e.told.1 a.product a.given c.requires.region c.in-Ok-Ok.delivering c.deliver.result e.told.2)
    (released_any a.product q c.let_go.new.pass c.let_go.ensures)

pub returns-in-Ok-clause-made : goal.returns-in-Ok-clause-made
returns-in-Ok-clause-made c =
    let p = c.args.pass.now in
    let q = c.deliver.new.pass in
    let e = c.in-Ok.ensures in
    let a = c.args.arrival in
    released_same a.product q c.let_go.new.pass c.let_go.ensures
    ∙ handed_made p q e.same e.rests e.told.0 e.told.1 a.product a.given c.requires.region c.in-Ok-Ok.delivering c.in-Ok.field-0 e.told.2
