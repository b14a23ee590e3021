use Rattle.live_readout.proofs.Carrying.{carried}
use Rattle.live_readout.proofs.carry.carry_out.Goals as goal

pub returns-in-Ok-clause-board : goal.returns-in-Ok-clause-board
returns-in-Ok-clause-board g c =
    carried c.args.job c.in_ok-started.started.board c.in_ok-board.board c.in-Ok.board c.in_ok-started.started.outcomes c.in_ok-started.ensures.board c.in_ok-started.ensures.outcomes
    c.in_ok-board.ensures.job c.in_ok-board.ensures.given c.in_ok-board.ensures.workers c.in-Ok.ensures.complete c.in-Ok.ensures.goes c.in-Ok.ensures.legal
