use Rattle.std.proofs.Common.{refl}
use Rattle.region_plan.proofs.answer.plan_over.Goals as goal

pub returns-then-lacks_state : goal.returns-then-lacks_state
returns-then-lacks_state c = ((c.in_default.is, c.in_default-waits.is), c.if-lacks_state.ensures.0 refl)
