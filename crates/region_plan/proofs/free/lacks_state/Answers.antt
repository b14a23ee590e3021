use Rattle.region_plan.proofs.Answering.{lacks}
use Rattle.region_plan.proofs.free.lacks_state.Goals as goal

pub returns-then-look : goal.returns-then-look
returns-then-look c = lacks c.args.look.now c.has_state.result c.if-look.true c.has_state.ensures
