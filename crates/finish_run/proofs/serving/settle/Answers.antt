-- The product whose turn it is waits on none, so it is settled.
use Rattle.finish_run.specs.Next.{never}
use Rattle.finish_run.proofs.Carried.{settled, settled_deliverable}
use Rattle.finish_run.proofs.serving.settle.Goals as goal

pub deliver-requires : goal.deliver-requires
deliver-requires c = settled_deliverable c.args.board.now c.args.p c.args.given.now c.requires.outcomes c.requires.turn c.requires.settled

pub returns-clause-goes : goal.returns-clause-goes
returns-clause-goes c = (settled never c.args.given.now c.args.board.now c.deliver.new.board c.args.p c.deliver.ensures.delivered.0 c.requires.turn c.deliver.ensures.delivered.1 c.deliver.ensures.delivered.2).goes

pub returns-clause-idle : goal.returns-clause-idle
returns-clause-idle c = (settled never c.args.given.now c.args.board.now c.deliver.new.board c.args.p c.deliver.ensures.delivered.0 c.requires.turn c.deliver.ensures.delivered.1 c.deliver.ensures.delivered.2).idle

pub returns-clause-done : goal.returns-clause-done
returns-clause-done c = (settled never c.args.given.now c.args.board.now c.deliver.new.board c.args.p c.deliver.ensures.delivered.0 c.requires.turn c.deliver.ensures.delivered.1 c.deliver.ensures.delivered.2).done
