-- A delivery or settling that nothing speaks against isn't refused.
use Rattle.finish_run.proofs.calls.deliver.Goals as goal
use Rattle.finish_run.proofs.Accepting.{deliver_stands}

pub unreachable-requires : goal.unreachable-requires
unreachable-requires c = deliver_stands c.args.board.now c.args.p c.args.given c.in_default.field-0.why c.requires c.in_default.ensures.refused.1
