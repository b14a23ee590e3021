use Rattle.tool_top.proofs.Brought.{brought_by}
use Rattle.tool_top.proofs.serial.carry_out.Goals as goal

pub returns-in-Ok-clause-board : goal.returns-in-Ok-clause-board
returns-in-Ok-clause-board g c =
    brought_by g.P.Planner.meets c.args.job c.in_ok-started.started.board c.in-Ok.board c.in_ok-started.started.outcomes c.in_ok-started.ensures.board c.in_ok-started.ensures.outcomes
    c.in-Ok.ensures.complete c.in-Ok.ensures.goes c.in-Ok.ensures.legal
