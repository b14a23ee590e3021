use Rattle.run_top.proofs.Bare.{no_factories}
use Rattle.run_top.proofs.sides.no_ports.Goals as goal

pub returns-in-Ok : goal.returns-in-Ok
returns-in-Ok c = no_factories c.in-Ok.layout c.in-Ok.ensures.stands
