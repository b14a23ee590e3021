use Rattle.router_work.proofs.Passings.{passed_on}
use Rattle.live_readout.specs.Entries.{IsTaking}
use Rattle.live_readout.proofs.router.claim_number.Goals as goal

pub returns-in-Region-clause-passed : goal.returns-in-Region-clause-passed
returns-in-Region-clause-passed g c =
    passed_on IsTaking c.args.pass.now c.plan_number.new.pass c.claim_region.new.pass c.plan_number.ensures.passed c.claim_region.ensures
