use Rattle.history_replay.proofs.Joined.{certified_as}
use Rattle.history_replay.proofs.enter.enter.Goals as goal

pub claim-requires : goal.claim-requires
claim-requires c =
    let is = c.in_ok-plan-in-Claim.ensures in
    certified_as c.args.board.now.job.grid c.in_ok-plan-in-Claim.plan _ _ _ c.layout.result.now c.layout.ensures is.axis is.port is.cells is.certified
