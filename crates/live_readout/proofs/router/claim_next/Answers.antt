use Rattle.router_work.proofs.Passings.{passed_on}
use Rattle.live_readout.specs.Entries.{IsTaking}
use Rattle.live_readout.proofs.router.claim_next.Goals as goal

pub returns-clause-passed : goal.returns-clause-passed
returns-clause-passed g c =
    passed_on IsTaking c.args.pass.now c.is_held_back.new.pass c.claim_number.new.pass c.is_held_back.ensures c.claim_number.ensures.passed
