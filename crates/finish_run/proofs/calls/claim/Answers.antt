-- A claim that nothing speaks against isn't refused.
use Rattle.finish_run.proofs.calls.claim.Goals as goal
use Rattle.finish_run.proofs.Accepting.{claim_stands}

pub unreachable-requires : goal.unreachable-requires
unreachable-requires c = claim_stands c.args.board.now c.args.plan c.in_default.field-0.why c.requires c.in_default.ensures.refused.1
