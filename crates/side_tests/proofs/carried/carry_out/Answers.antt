use Rattle.side_tests.proofs.Two.{carried}
use Rattle.side_tests.proofs.carried.carry_out.Goals as goal

pub returns : goal.returns
returns c =
    carried _ c.in_ok-pair.pair.job c.in_ok-pair.pair.spans c.in_ok-started.started.board c.in-Ok.board c.in_ok-started.started.circuit c.in_ok-started.started.outcomes
    c.in_ok-pair.ensures.two c.in_ok-started.ensures.circuit c.in_ok-started.ensures.board c.in_ok-started.ensures.outcomes c.in-Ok.ensures.complete c.in-Ok.ensures.goes
