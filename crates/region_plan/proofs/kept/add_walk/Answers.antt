use Rattle.region_plan.proofs.Keeping.{suits_set}
use Rattle.region_plan.proofs.kept.add_walk.Goals as goal

pub returns-in_err-widen : goal.returns-in_err-widen
returns-in_err-widen c = c.widen.ensures.kept c.args.layout.now c.args.held.now c.requires.kept

pub returns : goal.returns
returns c = suits_set c.args.layout.now c.args.held.now c.widen.new.walks.items _ _ (c.widen.ensures.kept c.args.layout.now c.args.held.now c.requires.kept) c.in_ok-queue.ensures
