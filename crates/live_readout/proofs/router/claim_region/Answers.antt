use Rattle.router_work.proofs.Passings.{passed_on}
use Rattle.live_readout.specs.Entries.{IsTaking}
use Rattle.live_readout.proofs.router.claim_region.Goals as goal

pub returns-in-Ok-claim_by : goal.returns-in-Ok-claim_by
returns-in-Ok-claim_by g c =
    passed_on IsTaking c.args.pass.now c.claim_by.new.pass c.says_stop_to_answer.new.pass c.claim_by.ensures c.says_stop_to_answer.ensures

pub returns : goal.returns
returns g c =
    let asked = c.says_stop_to_answer-in-Err-Refused in
    passed_on IsTaking c.args.pass.now c.claim_by.new.pass asked.new.pass c.claim_by.ensures asked.ensures
